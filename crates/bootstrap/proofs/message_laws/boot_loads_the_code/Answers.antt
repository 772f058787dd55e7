use Rattle.bootstrap.proofs.Boots.{boots}
use Rattle.bootstrap.proofs.message_laws.boot_loads_the_code.Goals as goal

pub returns : goal.returns
returns c = record {
  law =
      boots c.written_words_are_read.ensures.size c.written_words_are_read.ensures.read
      c.written_words_are_read.ensures.others c.written_bytes_are_read.ensures.size
      c.written_bytes_are_read.ensures.read c.written_bytes_are_read.ensures.others;
}

use Rattle.bootstrap.proofs.Sizes.{size-node_step, size-after_steps}
use Rattle.bootstrap.proofs.laws.steps_keep_the_size.Goals as goal

pub returns-clause-one : goal.returns-clause-one
returns-clause-one c =
    size-node_step c.written_words_are_read.ensures.size c.written_bytes_are_read.ensures.size
    c.copies_stop_at_the_edge.ensures.size

pub returns-clause-several : goal.returns-clause-several
returns-clause-several c =
    size-after_steps c.written_words_are_read.ensures.size c.written_bytes_are_read.ensures.size
    c.copies_stop_at_the_edge.ensures.size

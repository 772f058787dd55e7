use Rattle.std.proofs.Common.{rules}
use Rattle.answer_text.proofs.Shown.{bytes_more}
use Rattle.answer_text.proofs.showing.write_all_bytes.Goals as goal

pub loop-it-preserved : goal.loop-it-preserved
loop-it-preserved c =
    bytes_more c.args.told.now c.loop-it.it-index _ _ _ _ (search rules) c.loop-it.invariant c.in_ok-write_read.ensures

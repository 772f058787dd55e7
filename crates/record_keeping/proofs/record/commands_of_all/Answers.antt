use Rattle.std.proofs.Common.{arith}
use Rattle.record_keeping.proofs.Counting.{commands_more}
use Rattle.record_keeping.proofs.record.commands_of_all.Goals as goal

pub loop-entry-preserved : goal.loop-entry-preserved
loop-entry-preserved c =
    let so_far = c.loop-entry.invariant in
    let one = c.commands_of-commands in record {
      counted =
          commands_more c.journals_add_up.ensures.law c.args.entries.now c.loop-entry.entry-index _
          c.loop-entry.commands one.result c.loop-entry-test.true so_far.counted one.ensures.commands;
      few = omega (arith, so_far.few, one.ensures.most);
    }

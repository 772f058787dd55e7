use Rattle.std.proofs.Common.{arith}
use Rattle.record_following.specs.RecordCursor.{said_by, IsCursor}
use Rattle.record_following.proofs.cursor.apply_record.Goals as goal

pub loop-cursor-preserved : goal.loop-cursor-preserved
loop-cursor-preserved g c =
    let plan = c.args.plan.now in
    let lines = said_by c.args.lines.now in
    let begun : IsCursor plan lines c.begin_line.new.self =
    c.begin_line.ensures.cursor plan c.loop-cursor.invariant.cursor in
    record {
      cursor = c.in_default.ensures.done.on lines plan begun;
      rest = omega (arith, c.in_default.ensures.rest);
    }

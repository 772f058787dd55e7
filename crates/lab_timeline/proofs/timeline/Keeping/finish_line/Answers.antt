use Rattle.std.proofs.Common.{◌∙◌}
use Rattle.record_following.specs.RecordCursor.{GoesOn}
use Rattle.lab_timeline.specs.Advance.{KeepsOf}
use Rattle.lab_timeline.proofs.timeline.Keeping.finish_line.Goals as goal

pub loop-here-init : goal.loop-here-init
loop-here-init g c =
    let on : GoesOn c.args.here.now c.go_on.new.here = c.in_ok-reply.ensures.cursor in
    let keeps : KeepsOf c.go_on.new.here c.args.self.now.kept.items c.go_on.new.self.kept.items =
    c.in_ok-reply.ensures.kept in
    record {
      cursor = λ lines plan was. on lines plan was;
      kept = λ plan lines was kept. keeps plan lines (on lines plan was) kept;
      next = c.in_ok-reply.ensures.next;
    }

pub loop-here-preserved : goal.loop-here-preserved
loop-here-preserved g c =
    let l = c.loop-here in
    let on : GoesOn l.here c.go_on-in-loop-here.new.here = c.in_ok-reply-2.ensures.cursor in
    let keeps : KeepsOf c.go_on-in-loop-here.new.here l.self.kept.items c.go_on-in-loop-here.new.self.kept.items =
    c.in_ok-reply-2.ensures.kept in
    record {
      cursor = λ lines plan was. on lines plan (l.invariant.cursor lines plan was);
      kept = λ plan lines was kept.
          keeps plan lines (on lines plan (l.invariant.cursor lines plan was)) (l.invariant.kept plan lines was kept);
      next = c.in_ok-reply-2.ensures.next ∙ l.invariant.next;
    }

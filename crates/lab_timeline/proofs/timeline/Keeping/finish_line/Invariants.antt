use Rattle.std.proofs.Common.{◌≡◌}
use Rattle.record_following.specs.RecordCursor.{GoesOn}
use Rattle.lab_timeline.specs.Advance.{KeepsOf}
use Rattle.lab_timeline.proofs.timeline.Keeping.finish_line.Given as goal

-- what was done and what was kept so far is of the record
abbrev pub invariant-loop-here : goal.invariant-loop-here
invariant-loop-here g l = record {
  cursor : GoesOn l.fn.here l.here;
  kept : KeepsOf l.fn.here l.fn.self.kept.items l.self.kept.items;
  next : l.here.next ≡ l.fn.here.next;
}

abbrev pub decreases-loop-here : goal.decreases-loop-here
decreases-loop-here g l = l.here.rest.times

use Rattle.std.proofs.Common.{◌≡◌, ◌-◌, length}
use Rattle.std.specs.Prelude.{All}
use Rattle.record_following.specs.RecordCursor.{said_by}
use Rattle.record_following.specs.RecordCursor.{IsCursor}
use Rattle.lab_timeline.proofs.timeline.Keeping.do_lines.Given as goal

-- between lines: what was done and what was kept so far is of the record
abbrev pub invariant-loop-here : goal.invariant-loop-here
invariant-loop-here g l = record {
  cursor : IsCursor l.fn.plan (said_by l.lines) l.here;
  rest : l.here.rest.times ≡ 0;
  kept : All (IsCursor l.fn.plan (said_by l.lines)) l.self.kept.items;
}

abbrev pub decreases-loop-here : goal.decreases-loop-here
decreases-loop-here g l = length l.lines - l.here.next

use Rattle.std.proofs.Common.{◌≡◌, ◌-◌, length}
use Rattle.record_following.specs.RecordCursor.{said_by, IsCursor}
use Rattle.record_following.proofs.cursor.apply_record.Given as goal

-- between lines: what was done so far is of the record
abbrev pub invariant-loop-cursor : goal.invariant-loop-cursor
invariant-loop-cursor g l = record {
  cursor : IsCursor l.fn.plan (said_by l.lines) l.cursor;
  rest : l.cursor.rest.times ≡ 0;
}

abbrev pub decreases-loop-cursor : goal.decreases-loop-cursor
decreases-loop-cursor g l = length l.lines - l.cursor.next

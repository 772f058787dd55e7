use Rattle.std.proofs.Common.{◌≡◌, ◌-◌, ◌<◌, ◌≤◌, length}
use Rattle.record_following.specs.RecordCursor.{said_by}
use Rattle.record_following.specs.RecordCursor.{GoesOnIn}
use Rattle.record_following.proofs.cursor.RecordCursor.lead.Given as goal

-- what was done so far is of the record, up to the event; before that, nothing is left of the line
abbrev pub invariant-loop-self : goal.invariant-loop-self
invariant-loop-self l = record {
  cursor : GoesOnIn (said_by l.lines) l.fn.self l.self;
  within : l.self.replayed.recorded ≤ l.event;
  stops : l.self.replayed.recorded < l.event → l.self.rest.times ≡ 0;
}

abbrev pub decreases-loop-self : goal.decreases-loop-self
decreases-loop-self l = length l.lines - l.self.next

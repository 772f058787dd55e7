use Rattle.std.proofs.Common.{◌≡◌, ◌+◌, ◌<◌}
use Rattle.record_following.specs.RecordCursor.{GoesOn}
use Rattle.record_following.proofs.cursor.RecordCursor.apply_part.Given as goal

-- what was done so far is of the record: each event that isn't left any more was recorded
abbrev pub invariant-loop-left : goal.invariant-loop-left
invariant-loop-left g l = record {
  on : GoesOn l.fn.self l.self;
  all : l.self.replayed.recorded + l.self.rest.times ≡ l.fn.self.replayed.recorded + l.fn.self.rest.times;
  sum : l.self.replayed.recorded + l.left ≡ l.fn.self.replayed.recorded + l.fn.most;
  some : l.fn.self.replayed.recorded < l.self.replayed.recorded;
  next_is : l.self.next ≡ l.fn.self.next;
}

abbrev pub decreases-loop-left : goal.decreases-loop-left
decreases-loop-left g l = l.left

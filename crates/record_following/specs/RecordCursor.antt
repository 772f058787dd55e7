-- How far a record was done.
use Rattle.std.specs.Prelude.{◌≡◌, ◌≤◌, ◌+◌, ℕ, List, ◌++◌, map, take, drop, length}
use Rattle.plan_rules.specs.Data.{DomainData}
use Rattle.domain_core.specs.Moments.{MomentValue}
use Rattle.domain_core.specs.PrivateFarm.{Call}
use Rattle.farm_records.specs.declared.line.RecordedCall.{RecordedCall}
use Rattle.record_following.specs.declared.line.RecordedLine.{RecordedLine}
use Rattle.record_following.specs.declared.cursor.RecordCursor.{RecordCursor}
use Rattle.record_following.specs.Following.{calls_said, all_said, IsMomentAfter}

-- what lines say was called
abbrev pub said_by : List RecordedLine → List RecordedCall
said_by lines = map (λ l. l.call) lines

-- the moment after the first `event` events of a record: after all of them if it has fewer
abbrev pub IsMomentAt : List DomainData → List RecordedCall → ℕ → MomentValue → Type 0
IsMomentAt plan lines event m = IsMomentAfter plan 0 (take event (all_said lines)) m

-- these calls of a record were done, and led to this moment: then come the rest of a line, and the lines after it
pub record IsCursor (plan : List DomainData) (lines : List RecordedCall) (p : RecordCursor) : Type 0 where
  pub done : List Call
  pub whole : done ++ (calls_said p.rest ++ all_said (drop p.next lines)) ≡ all_said lines
  pub moment : IsMomentAfter plan 0 done p.replayed
  pub recorded_is : p.replayed.recorded ≡ length done

-- what is done of a record by then is still of it
abbrev pub GoesOnIn : List RecordedCall → RecordCursor → RecordCursor → Type 0
GoesOnIn lines old new = (plan : List DomainData) → IsCursor plan lines old → IsCursor plan lines new

-- the same of every record
abbrev pub GoesOn : RecordCursor → RecordCursor → Type 0
GoesOn old new = (lines : List RecordedCall) → GoesOnIn lines old new

-- what is done of a record by then leads to the moment after its first `event` events
abbrev pub ComesTo : List RecordedCall → ℕ → RecordCursor → RecordCursor → Type 0
ComesTo lines event old new =
    (plan : List DomainData) → IsCursor plan lines old → IsMomentAt plan lines event new.replayed

-- events that were left of a line were done, at most `most`, and each was recorded
pub record DoesUpTo (most : ℕ) (old new : RecordCursor) : Type 0 where
  pub on : GoesOn old new
  pub all : new.replayed.recorded + new.rest.times ≡ old.replayed.recorded + old.rest.times
  pub within : new.replayed.recorded ≤ old.replayed.recorded + most
  pub next_is : new.next ≡ old.next

-- if nothing is left of a record, all its calls were done
abbrev pub CursorEnds : Type 0
CursorEnds =
    (plan : List DomainData) (lines : List RecordedCall) (p : RecordCursor)
    → IsCursor plan lines p → p.rest.times ≡ 0 → length lines ≤ p.next
    → IsMomentAt plan lines (length (all_said lines)) p.replayed

-- What is kept of a record on the way through it.
use Rattle.std.specs.Prelude.{◌≡◌, true, Bool, List, length, All}
use Rattle.plan_rules.specs.Data.{DomainData}
use Rattle.farm_records.specs.declared.line.RecordedCall.{RecordedCall}
use Rattle.record_following.specs.declared.cursor.RecordCursor.{RecordCursor}
use Rattle.record_following.specs.RecordCursor.{IsCursor}

-- if this and all that were kept are of a record, so are all that are kept then
abbrev pub KeepsOf : RecordCursor → List RecordCursor → List RecordCursor → Type 0
KeepsOf p old new =
    (plan : List DomainData) (lines : List RecordedCall) → IsCursor plan lines p → All (IsCursor plan lines) old
    → All (IsCursor plan lines) new

-- if an opening and all that were kept are of a record, so is this
abbrev pub IsOfKept : RecordCursor → List RecordCursor → RecordCursor → Type 0
IsOfKept opening kept p =
    (plan : List DomainData) (lines : List RecordedCall) → IsCursor plan lines opening
    → All (IsCursor plan lines) kept → IsCursor plan lines p

-- a timeline begins at the opening, has kept moments of its record, and shows one of it, if it was led there
pub record IsTimeline (plan : List DomainData) (lines : List RecordedCall) (opening : RecordCursor)
    (kept : List RecordCursor)
    (is_led : Bool) (here : RecordCursor) : Type 0 where
  pub one : length plan ≡ 1
  pub opening_is : IsCursor plan lines opening
  pub from : opening.replayed.recorded ≡ 0
  pub kept_are : All (IsCursor plan lines) kept
  pub here_is : is_led ≡ true → IsCursor plan lines here

-- a beginning at this moment if it was led there, or at a kept one
abbrev pub Begins : Bool → RecordCursor → RecordCursor → RecordCursor → Type 0
Begins is_led here near begun =
    (plan : List DomainData) (lines : List RecordedCall) → (is_led ≡ true → IsCursor plan lines here)
    → IsCursor plan lines near → IsCursor plan lines begun

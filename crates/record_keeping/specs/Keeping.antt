-- What the record of a domain keeps.
use Rattle.std.specs.Prelude.{◌≡◌, ◌≤◌, ◌+◌, ◌<◌, ◌↔◌, ◌⊎◌, ℕ, Bool, true, false, List, length, Option, IsSome, vec_capacity, string_bytes, if◌then◌else◌}
use Rattle.plan_rules.specs.Data.{DomainData}
use Rattle.domain_core.specs.declared.copying.Mark.{Mark}
use Rattle.farm_records.specs.RecordText.{record_text, lines_of}
use Rattle.record_keeping.specs.declared.domain_record.DomainRecord.{DomainRecord}
use Rattle.record_keeping.specs.Counts.{commands_among, saturated}
use Rattle.record_keeping.specs.Pieces.{JournalPiece, entries_of, AreGained, EndWithRoom, IsBeginning}
use Rattle.record_keeping.specs.Writing.{IsWritten}

-- what no call changes of a record: its head, and how many entries are copied at a time
pub record IsSameRecord {S : Type 0} {g : _} (old new : DomainRecord S g) : Type 0 where
  pub head : new.head ≡ old.head
  pub places : vec_capacity new.room ≡ vec_capacity old.room

-- this holds if the store of a record said that all records together take no more bytes than they may
abbrev pub HoldsInRoom : {S : Type 0} {g : _} → (S → ℕ → Type 0) → (S → ℕ → Type 0) → DomainRecord S g → Type 0 → Type 0
HoldsInRoom has_bytes has_older_bytes kept P =
    (bytes older : ℕ) × has_bytes kept.store bytes × has_older_bytes kept.store older
    × (bytes + older ≤ kept.most_bytes → P)

-- a record kept what the journal of a domain of this number gained: pieces up to the mark that the record has now, and
-- the last of them leaves room, unless there may be more. What is whole of the record gained exactly the lines of their
-- entries, and its count of commands gained as many as are among them. If the journal began again, so did the record,
-- and its count began at 0
pub record KeepsGained {S : Type 0} {g : _} (whole : S → Option (List ℕ)) (plan : List DomainData) (number : ℕ)
    (anew more : Bool) (old new : DomainRecord S g) : Type 0 where
  pub from : Mark
  pub pieces : List JournalPiece
  pub beginning : IsBeginning anew old.mark from
  pub gained : AreGained plan number (vec_capacity old.room) from pieces new.mark
  pub last : more ≡ false → number < length plan → EndWithRoom (vec_capacity old.room) pieces
  pub text : IsWritten anew (string_bytes old.head) (whole old.store) (whole new.store)
      (record_text (lines_of (entries_of pieces)))
  pub commands :
      new.commands ≡ saturated ((if anew then 0 else old.commands) + commands_among (entries_of pieces))
  pub begun : new.owes_next ≡ false

-- the next record is still owed to a journal that began again: the mark, the count and what is whole of the record stay
pub record StillOwes {S : Type 0} {g : _} (whole : S → Option (List ℕ)) (anew : Bool) (old new : DomainRecord S g)
    : Type 0 where
  pub is_anew : anew ≡ true
  pub owed : new.owes_next ≡ true
  pub mark : new.mark ≡ old.mark
  pub commands : new.commands ≡ old.commands
  pub text : whole new.store ≡ whole old.store

-- after an error nothing that the journal gained is left out and nothing is there twice: the record kept some pieces
-- whole, and the mark is after them, or the next record is still owed
abbrev pub KeepsSome : {S : Type 0} {g : _} → (S → Option (List ℕ)) → List DomainData → ℕ → Bool
    → DomainRecord S g → DomainRecord S g → Type 0
KeepsSome whole plan number anew old new =
    StillOwes whole anew old new ⊎ KeepsGained whole plan number anew true old new

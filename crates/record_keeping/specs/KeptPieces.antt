-- What a record keeps piece by piece.
use Rattle.std.specs.Prelude.{◌≡◌, ◌+◌, ◌<◌, ℕ, Bool, false, List, length, Option, vec_capacity}
use Rattle.std.specs.Io.KnownBytes.{Appends}
use Rattle.plan_rules.specs.Data.{DomainData}
use Rattle.farm_records.specs.RecordText.{record_text, lines_of}
use Rattle.record_keeping.specs.declared.domain_record.DomainRecord.{DomainRecord}
use Rattle.record_keeping.specs.Counts.{commands_among, saturated}
use Rattle.record_keeping.specs.Pieces.{JournalPiece, entries_of, AreGained, EndWithRoom}

-- a record kept pieces and counted their commands, and the last of them leaves room, unless there may be more
pub record KeepsPieces {S : Type 0} {g : _} (whole : S → Option (List ℕ)) (plan : List DomainData) (number : ℕ)
    (more : Bool) (old new : DomainRecord S g) : Type 0 where
  pub pieces : List JournalPiece
  pub gained : AreGained plan number (vec_capacity old.room) old.mark pieces new.mark
  pub last : more ≡ false → number < length plan → EndWithRoom (vec_capacity old.room) pieces
  pub text : Appends (whole old.store) (whole new.store)
      (record_text (lines_of (entries_of pieces)))
  pub commands : new.commands ≡ saturated (old.commands + commands_among (entries_of pieces))

-- the mark, the count and what is whole of a record stay
pub record KeepsNothing {S : Type 0} {g : _} (whole : S → Option (List ℕ)) (old new : DomainRecord S g)
    : Type 0 where
  pub mark : new.mark ≡ old.mark
  pub commands : new.commands ≡ old.commands
  pub text : whole new.store ≡ whole old.store

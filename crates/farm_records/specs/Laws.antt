-- What holds of every record.
use Rattle.std.specs.Prelude.{◌≡◌, ℕ, List, ◌++◌, take, drop}
use Rattle.domain_core.specs.declared.journal.Entry.{Entry}
use Rattle.domain_core.specs.Journal.{expanded}
use Rattle.farm_records.specs.RecordText.{RecordLine, record_text, record_history, lines_of}

-- the lines of entries stand for what the entries stand for
abbrev pub RecordsAreHistories : Type 0
RecordsAreHistories = (entries : List Entry) → record_history (lines_of entries) ≡ expanded entries

-- a record of the first lines of another is a beginning of it, in its text and in its history
pub record IsCutBehind (count : ℕ) (lines : List RecordLine) : Type 0 where
  pub text : record_text lines ≡ record_text (take count lines) ++ record_text (drop count lines)
  pub history : record_history lines ≡ record_history (take count lines) ++ record_history (drop count lines)

-- a record can be cut after each of its lines
abbrev pub BeginningsAreRecords : Type 0
BeginningsAreRecords = (lines : List RecordLine) (count : ℕ) → IsCutBehind count lines

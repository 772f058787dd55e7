-- What it means that a domain did again what a record says.
use Rattle.std.specs.Prelude.{◌≡◌, ◌≢◌, ◌≤◌, ℕ, List, ◌++◌, All}
use Rattle.domain_core.specs.Domain.{DomainValue}
use Rattle.domain_core.specs.Journal.{AnsweredCall, expanded}
use Rattle.farm_records.specs.RecordText.{RecordLine, record_line_text, line_history, record_text, record_history}

-- the history of a domain gains these answered calls; its part and its ports stay
pub record GainsHistory (gain : List AnsweredCall) (old new : DomainValue) : Type 0 where
  pub history : expanded new.journal ≡ expanded old.journal ++ gain
  pub part : new.machine.part ≡ old.machine.part
  pub ports : new.machine.switch.ports ≡ old.machine.switch.ports

-- the bytes are the line of a call that the domain answered exactly as the line says, and as often, at least once
pub record RedoesLine (bytes : List ℕ) (old new : DomainValue) : Type 0 where
  pub line : RecordLine
  pub some : 1 ≤ line.times
  pub text : record_line_text line ≡ bytes
  pub gains : GainsHistory (line_history line) old new

-- the bytes are lines of such calls, each made at least once, and then what comes after the last line feed (10)
pub record RedoesLines (bytes behind : List ℕ) (old new : DomainValue) : Type 0 where
  pub lines : List RecordLine
  pub some : All (λ l. 1 ≤ l.times) lines
  pub text : bytes ≡ record_text lines ++ behind
  pub torn : All (λ byte. byte ≢ 10) behind
  pub gains : GainsHistory (record_history lines) old new

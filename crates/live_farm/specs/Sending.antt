-- What is sent of a line that was read.
use Rattle.std.specs.Prelude.{◌<◌, ⊤, ℕ, List}
use Rattle.script_text.specs.declared.input_line.InputLine.{InputLine}
use Rattle.script_text.specs.InputLines.{IsNextLine}
use Rattle.live_lines.specs.declared.asked.OperatorRequest.{OperatorRequest}
use Rattle.live_lines.specs.declared.asked.OperatorRequest.TheVariants as operator
use Rattle.live_farm.specs.declared.fate.LineFate.{LineFate}
use Rattle.live_farm.specs.declared.fate.LineFate.TheVariants as fate
use Rattle.live_farm.specs.declared.line_counts.LineCounts.{LineCounts}
use Rattle.live_farm.specs.declared.queued.QueuedRequest.{QueuedRequest}
use Rattle.live_farm.specs.declared.queued.QueuedRequest.TheVariants as line
use Rattle.live_farm.specs.Fates.{IsFate}
use Rattle.live_farm.specs.LineCounts.{IsCounted}

-- what a call of who takes lines says of a user's place among all, of a line's number, and of a request
abbrev pub SenderSays : Type 0 → Type 1
SenderSays U = U → ℕ → ℕ → QueuedRequest → Type 0

-- what the operator asked in the line of this number was sent, if it is for the domain of one of this many users
abbrev pub IsOperatorsSent : {U : Type 0} → SenderSays U → U → ℕ → ℕ → OperatorRequest → Type 0
IsOperatorsSent was_sent sender count number (operator.Restart user) =
    user < count → was_sent sender user number line.OperatorRestart
IsOperatorsSent was_sent sender count number other = ⊤

-- the line of this number was sent as what became of it says, and for the very user of this many
abbrev pub IsFateSent : {U : Type 0} → SenderSays U → U → ℕ → ℕ → LineFate → Type 0
IsFateSent was_sent sender count number (fate.Asks user request) =
    user < count → was_sent sender user number (line.Asked request)
IsFateSent was_sent sender count number (fate.Refused user w) =
    user < count → was_sent sender user number (line.Wrong w)
IsFateSent was_sent sender count number (fate.Operator request) =
    IsOperatorsSent was_sent sender count number request
IsFateSent was_sent sender count number other = ⊤

-- the next line of a text was read, of this number of bytes at the most, was counted as a line of its user, and was
-- sent under that number as it asks
pub record IsNextSent {U : Type 0} (was_sent : SenderSays U) (sender : U) (names : List (List ℕ)) (count most : ℕ)
    (before after : LineCounts) (text : List ℕ) : Type 0 where
  pub read : InputLine
  pub fate : LineFate
  pub number : ℕ
  pub next : IsNextLine text most read
  pub becomes : IsFate names read fate
  pub counted : IsCounted fate before after number
  pub sent : IsFateSent was_sent sender count number fate

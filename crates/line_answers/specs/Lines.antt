-- What a user's lines come to: what they asked of the user's domain, with the replies, and their output lines.
use Rattle.std.specs.Prelude.{◌≡◌, ◌++◌, ◌⊎◌, ℕ, List, [], ◌∷◌, Some, None, Result, Ok, Err, ⊤}
use Rattle.domain_core.specs.declared.event.Event.{Event}
use Rattle.domain_core.specs.declared.event.Refusal.{Refusal}
use Rattle.domain_core.specs.declared.event.Refusal.TheVariants.{NoSuch, JournalFull, NoMemory}
use Rattle.domain_core.specs.declared.event.AnsweredCommand.{AnsweredCommand}
use Rattle.farm_service.specs.Answers.{IsTold}
use Rattle.farm_service.specs.Passes.{SessionValue}
use Rattle.script_lines.specs.declared.command.Command.{Command}
use Rattle.script_lines.specs.declared.command.Command.TheVariants.{Peek}
use Rattle.answer_text.specs.Results.{line_text, replies_told}
use Rattle.line_answers.specs.Asks.{read_replies, next_event, AreAsked}

-- an event is refused as the farm that holds the domain alone refuses it; that the journal is full is said only if this
-- is so. That memory ran out is never the end of an answered line
abbrev pub IsLineRefusal : Type 0 → SessionValue → Event → Refusal → Type 0
IsLineRefusal IsFull s event NoSuch = IsTold s event (Err NoSuch)
IsLineRefusal IsFull s event JournalFull = IsTold s event (Err JournalFull) × IsFull
IsLineRefusal IsFull s event NoMemory = ⊥

-- a peek that hasn't read yet is refused if its domain can't settle since the journal is nearly full
abbrev pub IsUnsettled : Command → List AnsweredCommand → Refusal → Type 0
IsUnsettled (Peek host address) told JournalFull = read_replies told ≡ []
IsUnsettled command told refusal = ⊥

-- a line asks nothing more, or what it asks next is refused, or it is a peek that can't settle. That the journal is
-- full, or nearly full, is said only if this is so
abbrev pub LineHasEnded : {A : Type 0} → Type 0 → Type 0 → SessionValue → Command → List AnsweredCommand
    → Result A Refusal
    → Type 0
LineHasEnded IsFull IsNearlyFull s command told (Ok done) = next_event command told ≡ None
LineHasEnded IsFull IsNearlyFull s command told (Err refusal) =
    ((event : Event) × (next_event command told ≡ Some event) × IsLineRefusal IsFull s event refusal)
    ⊎ (IsUnsettled command told refusal × IsNearlyFull)

-- a line asks these events, one after another, up to its end, and its output line shows their replies
pub record IsAnsweredLine (IsFull IsNearlyFull : Type 0) (s : SessionValue) (name : List ℕ) (command : Command)
    (told : List AnsweredCommand) (text : List ℕ) : Type 0 where
  pub result : Result ⊤ Refusal
  pub asked : AreAsked (next_event command) [] told
  pub ended : LineHasEnded IsFull IsNearlyFull s command told result
  pub is_text : text ≡ line_text name command (replies_told told) result

-- lines one after another: their events follow each other, and so do their output lines
abbrev pub AreAnsweredLines : Type 0 → Type 0 → SessionValue → List ℕ → List Command → List AnsweredCommand → List ℕ
    → Type 0
AreAnsweredLines IsFull IsNearlyFull s name [] told screen = (told ≡ []) × (screen ≡ [])
AreAnsweredLines IsFull IsNearlyFull s name (command ∷ commands) told screen =
    (some more : List AnsweredCommand) × (line rest : List ℕ) × (told ≡ some ++ more) × (screen ≡ line ++ rest)
    × IsAnsweredLine IsFull IsNearlyFull s name command some line
    × AreAnsweredLines IsFull IsNearlyFull s name commands more rest

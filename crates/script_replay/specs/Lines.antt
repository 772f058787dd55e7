-- Lines of users, and of the lab, on a farm on one thread.
use Rattle.std.specs.Prelude.{◌≡◌, ◌≢◌, ◌++◌, ◌⊎◌, ℕ, Bool, true, false, List, [], ◌∷◌, map, codes, Result, Ok, Err, None, Some, ⊤}
use Rattle.domain_core.specs.declared.event.By.TheVariants.{User}
use Rattle.domain_core.specs.declared.event.Event.{Event}
use Rattle.domain_core.specs.declared.event.Refusal.{Refusal}
use Rattle.domain_core.specs.declared.event.Refusal.TheVariants.{NoMemory}
use Rattle.domain_core.specs.Domain.{DomainValue}
use Rattle.domain_core.specs.PrivateFarm.{Answer, Call}
use Rattle.whole_farm.specs.Places.{Place}
use Rattle.domain_core.specs.declared.event.AnsweredCommand.{AnsweredCommand}
use Rattle.event_text.specs.declared.request.RepeatedRequest.{RepeatedRequest}
use Rattle.farm_replay.specs.Plain.{asked_by}
use Rattle.farm_replay.specs.Runs.{HaveRun, HasGoneOn, IsOpenedFarm, ShowsAsked}
use Rattle.script_lines.specs.declared.command.Command.{Command}
use Rattle.script_lines.specs.declared.command.Command.TheVariants.{Peek}
use Rattle.answer_text.specs.Results.{line_text, replies_told}
use Rattle.line_answers.specs.Asks.{next_event, AreAsked}
use Rattle.line_answers.specs.Lines.{IsUnsettled}
use Rattle.script_replay.specs.declared.asks.AskedLine.{AskedLine}
use Rattle.script_replay.specs.declared.asks.AskedLine.TheVariants.{OfLab, OfUser}
use Rattle.script_replay.specs.declared.asks.UserLine.{UserLine}

-- ---- what a user's line asks

-- an event of a line's user, as a call of the whole farm
abbrev pub call_of_line : UserLine → Event → ℕ × Call
call_of_line l event = (l.domain, record { by = User l.user; event = event })

-- events of a line's user, as calls
abbrev pub calls_of_line : UserLine → List AnsweredCommand → List (ℕ × Call)
calls_of_line l told = map (λ t. call_of_line l t.event) told

-- their replies, as the farm's answers
abbrev pub answers_told : List AnsweredCommand → List Answer
answers_told told = map (λ t. Ok t.reply) told

-- the farm refuses what the line asks next, and nothing changes
pub record IsRefusedNext (l : UserLine) (told : List AnsweredCommand) (domains : List DomainValue) (refusal : Refusal)
    : Type 0 where
  pub event : Event
  pub next : next_event l.command told ≡ Some event
  pub run : HaveRun domains domains (call_of_line l event ∷ []) (Err refusal ∷ [])

-- more of what a line asks is asked, one event after another, and each is answered by the farm
pub record AsksOn (l : UserLine) (before after : List AnsweredCommand) (old new : List DomainValue) : Type 0 where
  pub more : List AnsweredCommand
  pub list : after ≡ before ++ more
  pub asked : AreAsked (next_event l.command) before more
  pub run : HaveRun old new (calls_of_line l more) (answers_told more)

-- a refusal ends it. Nothing is said of NoMemory
abbrev pub IsStoppedBy : UserLine → List AnsweredCommand → List DomainValue → Refusal → Type 0
IsStoppedBy l told domains NoMemory = ⊤
IsStoppedBy l told domains refusal = IsRefusedNext l told domains refusal

-- nothing more is asked, unless it stops before it reads
abbrev pub IsAtEnd : Bool → UserLine → List AnsweredCommand → Type 0
IsAtEnd true l told = ⊤
IsAtEnd false l told = next_event l.command told ≡ None

-- how that ends
abbrev pub HasStopped : {A : Type 0} → Bool → UserLine → List AnsweredCommand → List DomainValue → Result A Refusal
    → Type 0
HasStopped stops l told domains (Ok done) = IsAtEnd stops l told
HasStopped stops l told domains (Err refusal) = IsStoppedBy l told domains refusal

-- whether a line asks for a word of memory, and so lets its domain go on before it reads
abbrev pub is_peek : Command → Bool
is_peek (Peek host address) = true
is_peek command = false

-- a domain goes on, or nothing changes
abbrev pub GoesOnIf : Bool → ℕ → List DomainValue → List DomainValue → Type 0
GoesOnIf true domain old new = HasGoneOn domain old new
GoesOnIf false domain old new = new ≡ old

-- a line's end: nothing more is asked, or the farm refuses what is asked next, or it is a peek that can't settle
abbrev pub HasEndedOn : {A : Type 0} → UserLine → List AnsweredCommand → List DomainValue → Result A Refusal → Type 0
HasEndedOn l told domains (Ok done) = next_event l.command told ≡ None
HasEndedOn l told domains (Err refusal) = IsStoppedBy l told domains refusal ⊎ IsUnsettled l.command told refusal

-- a line asks all that it asks: some events, and those after the settling of a peek
pub record AsksWhole {A : Type 0} (l : UserLine) (told : List AnsweredCommand) (old new : List DomainValue)
    (result : Result A Refusal) : Type 0 where
  pub first : List AnsweredCommand
  pub second : List AnsweredCommand
  pub before : List DomainValue
  pub after : List DomainValue
  pub list : told ≡ first ++ second
  pub asked : AreAsked (next_event l.command) [] told
  pub begun : HaveRun old before (calls_of_line l first) (answers_told first)
  pub between : GoesOnIf (is_peek l.command) l.domain before after
  pub finished : HaveRun after new (calls_of_line l second) (answers_told second)
  pub ended : HasEndedOn l told new result

-- ---- what it is answered

-- a user's line asks all that it asks, and its output line shows the replies, as the program shows them. That memory
-- ran out is never the end of an answered line
pub record ShowsUserLine (l : UserLine) (old new : List DomainValue) (text : List ℕ) : Type 0 where
  pub told : List AnsweredCommand
  pub result : Result ⊤ Refusal
  pub asks : AsksWhole l told old new result
  pub memory : result ≢ Err NoMemory
  pub is_text : text ≡ line_text l.name.now l.command (replies_told told) result

-- the same, and then the user's domain goes on, as far as the farm lets it
pub record IsSettledLine (l : UserLine) (old new : List DomainValue) (text : List ℕ) : Type 0 where
  pub before : List DomainValue
  pub line : ShowsUserLine l old before text
  pub settled : HasGoneOn l.domain before new

-- a line of the lab's own, and its end
pub record IsLabLine (plan : List Place) (request : RepeatedRequest) (old new : List DomainValue) (text : List ℕ)
    : Type 0 where
  pub line : List ℕ
  pub shows : ShowsAsked plan (asked_by request) old new line
  pub is_text : text ≡ line ++ codes "\n"

-- what a line does to the domains of a farm, and its answer
abbrev pub ShowsLine : List Place → AskedLine → List DomainValue → List DomainValue → List ℕ → Type 0
ShowsLine plan (OfLab request) old new text = IsLabLine plan request old new text
ShowsLine plan (OfUser l) old new text = IsSettledLine l old new text

-- the answers to lines, one after another, each by the domains that the one before left
abbrev pub AreLinesFrom : List Place → List DomainValue → List AskedLine → List (List ℕ) → Type 0
AreLinesFrom plan domains [] [] = ⊤
AreLinesFrom plan domains (line ∷ lines) (text ∷ texts) =
    (next : List DomainValue) × ShowsLine plan line domains next text × AreLinesFrom plan next lines texts
AreLinesFrom plan domains lines texts = ⊥

-- the same from the opening of the farm
abbrev pub AreLinesOnAFarm : List Place → List AskedLine → List (List ℕ) → Type 0
AreLinesOnAFarm plan lines texts =
    (opened : List DomainValue) × IsOpenedFarm plan opened × AreLinesFrom plan opened lines texts

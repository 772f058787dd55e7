-- What a line does to its user's session.
use Rattle.std.specs.Prelude.{◌≡◌, ◌++◌, ◌⊎◌, ℕ, Bool, true, List, [], Option, Some, None, Result, Ok, Err}
use Rattle.domain_core.specs.declared.event.Event.{Event}
use Rattle.domain_core.specs.declared.event.Refusal.{Refusal}
use Rattle.domain_core.specs.declared.event.Refusal.TheVariants.{NoSuch, JournalFull, NoMemory}
use Rattle.domain_core.specs.declared.event.AnsweredCommand.{AnsweredCommand}
use Rattle.farm_service.specs.Answers.{IsTold}
use Rattle.farm_service.specs.Passes.{SessionValue, with_nearly_full}
use Rattle.script_lines.specs.declared.command.Command.{Command}
use Rattle.line_answers.specs.Asks.{next_event, AreAsked}
use Rattle.line_answers.specs.Lines.{IsUnsettled, IsAnsweredLine, AreAnsweredLines}

-- whether the user of a session has met a full journal
abbrev pub HasMetFull : SessionValue → Type 0
HasMetFull s = s.pass.met_full ≡ true

-- whether a settling for the user of a session was refused because the journal was nearly full
abbrev pub HasMetNearlyFull : SessionValue → Type 0
HasMetNearlyFull s = s.pass.met_nearly_full ≡ true

-- the session whose list gained these, and whether its user has met a journal that is full, or nearly full, or no room
abbrev pub with_all : SessionValue → List AnsweredCommand → Bool → Bool → Bool → SessionValue
with_all s told full nearly_full no_room =
    record s {
      pass = record s.pass {
        told = s.pass.told ++ told;
        met_full = full;
        met_nearly_full = nearly_full;
        met_no_room = no_room;
      };
    }

-- the session of the same user, whose list gained these; a user who has met a journal that is full, or nearly full, has
-- met it from then on
pub record HasGained (s t : SessionValue) (told : List AnsweredCommand) : Type 0 where
  pub list : t ≡ with_all s told t.pass.met_full t.pass.met_nearly_full t.pass.met_no_room
  pub full : HasMetFull s → HasMetFull t
  pub nearly_full : HasMetNearlyFull s → HasMetNearlyFull t

-- the same of some list
abbrev pub GainsSome : SessionValue → SessionValue → Type 0
GainsSome s t = (told : List AnsweredCommand) × HasGained s t told

-- a session has settled, or that was refused since memory ran out, or since the journal is nearly full, which its user
-- has then met
abbrev pub HasSettled : {A : Type 0} → SessionValue → Result A Refusal → SessionValue → Type 0
HasSettled s (Ok done) t = t ≡ s
HasSettled s (Err NoSuch) t = ⊥
HasSettled s (Err JournalFull) t = t ≡ record s { pass = with_nearly_full s.pass }
HasSettled s (Err NoMemory) t = t ≡ s

-- nothing more is asked, or what is asked next is refused; if it is for a full journal, the user has met it
abbrev pub HasEnded : {A : Type 0} → (List AnsweredCommand → Option Event) → List AnsweredCommand → SessionValue
    → Result A Refusal
    → Type 0
HasEnded next told t (Ok done) = next told ≡ None
HasEnded next told t (Err refusal) =
    (event : Event) × (next told ≡ Some event) × IsTold t event (Err refusal)
    × (refusal ≡ JournalFull → HasMetFull t)

-- a session asks exactly this, up to its end
pub record AsksJust {A : Type 0} (next : List AnsweredCommand → Option Event) (s : SessionValue)
    (result : Result A Refusal)
    (t : SessionValue) : Type 0 where
  pub told : List AnsweredCommand
  pub gains : HasGained s t told
  pub asked : AreAsked next [] told
  pub ended : HasEnded next told t result

-- a line asks nothing more, or what it asks next is refused, or it is a peek that can't settle, and the user has met a
-- journal that is nearly full
abbrev pub IsOver : {A : Type 0} → Command → List AnsweredCommand → SessionValue → Result A Refusal → Type 0
IsOver command told t (Ok done) = HasEnded (next_event command) told t (Ok done)
IsOver {A} command told t (Err refusal) =
    HasEnded {A = A} (next_event command) told t (Err refusal)
    ⊎ (IsUnsettled command told refusal × HasMetNearlyFull t)

-- a session asks what a line asks, up to its end
pub record AsksLine {A : Type 0} (command : Command) (s : SessionValue) (result : Result A Refusal) (t : SessionValue)
    : Type 0 where
  pub told : List AnsweredCommand
  pub gains : HasGained s t told
  pub asked : AreAsked (next_event command) [] told
  pub ended : IsOver command told t result

-- a line is answered: its user's session gains what it asked, and the user's screen gains its output line
pub record IsAnswered (name : List ℕ) (command : Command) (s t : SessionValue) (screen more : List ℕ) : Type 0 where
  pub told : List AnsweredCommand
  pub line : List ℕ
  pub gains : HasGained s t told
  pub is_line : IsAnsweredLine (HasMetFull t) (HasMetNearlyFull t) s name command told line
  pub text : more ≡ screen ++ line

-- lines are answered, one after another: the user's screen shows their output lines
pub record AreAnswered (name : List ℕ) (commands : List Command) (s t : SessionValue) (screen : List ℕ)
    : Type 0 where
  pub told : List AnsweredCommand
  pub gains : HasGained s t told
  pub lines : AreAnsweredLines (HasMetFull t) (HasMetNearlyFull t) s name commands told screen

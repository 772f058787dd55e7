-- What holds of all domains, their journals and their histories.
use Rattle.std.specs.Prelude.{◌≡◌, ◌++◌, ℕ, List, [], ◌∷◌, Ok}
use Rattle.t414_step.specs.declared.stepping.Stepped.{Stepped}
use Rattle.plan_rules.specs.Data.{DomainData}
use Rattle.plan_rules.specs.Part.{PartData}
use Rattle.domain_core.specs.declared.event.By.{By}
use Rattle.domain_core.specs.declared.event.Reply.{Reply}
use Rattle.domain_core.specs.declared.journal.Entry.{Entry}
use Rattle.domain_core.specs.PrivateFarm.{State, Call, next}
use Rattle.domain_core.specs.Journal.{AnsweredCall, expanded, steps, IsHistory}
use Rattle.domain_core.specs.Answers.{IsAnswer}
use Rattle.domain_core.specs.Commands.{own_commands}
use Rattle.domain_core.specs.Domain.{DomainValue, Fits}

-- a domain that fits goes on fitting while its part and its ports stay
abbrev pub FittingStays : Type 0
FittingStays =
    (plan : List DomainData) (number : ℕ) (d e : DomainValue) → Fits plan number d
    → e.machine.part ≡ d.machine.part → e.machine.switch.ports ≡ d.machine.switch.ports
    → Fits plan number e

-- a journal and what was appended to it expand one after the other
abbrev pub JournalsAddUp : Type 0
JournalsAddUp = (journal later : List Entry) → expanded (journal ++ later) ≡ expanded journal ++ expanded later

-- what comes next after a history is the last answer to some list of calls
abbrev pub NextIsAnAnswer : Type 0
NextIsAnAnswer =
    (part : PartData) (history : List AnsweredCall) (s : State) (call : Call) → IsHistory part history s
    → IsAnswer part call (next part s call).1

-- a history and the next reply are a history, which leads to the next state
abbrev pub HistoriesGrow : Type 0
HistoriesGrow =
    (part : PartData) (history : List AnsweredCall) (s : State) (call : Call) (reply : Reply)
    → IsHistory part history s → (next part s call).1 ≡ Ok reply
    → IsHistory part (history ++ record { call = call; reply = reply } ∷ []) (next part s call).0

-- a user's commands in a history that goes on with a later one are those in the first, followed by those in the later
abbrev pub OwnCommandsAddUp : Type 0
OwnCommandsAddUp =
    (user : ℕ) (history later : List AnsweredCall)
    → own_commands user (history ++ later) ≡ own_commands user history ++ own_commands user later

-- Steps of a node are no command of any user
abbrev pub StepsAreNobodys : Type 0
StepsAreNobodys =
    (user : ℕ) (by : By) (node count : ℕ) (last : Stepped) → own_commands user (steps by node count last) ≡ []

-- The Moves of a domain's ports, in order, by the farm that holds the domain alone.
use Rattle.std.specs.Prelude.{ℕ, zero, suc, ◌<◌, ◌≡◌, Bool, true, false, List, [], ◌∷◌, ◌++◌, All, Result, Ok, Err, IsOk}
use Rattle.plan_rules.specs.Part.{PartData}
use Rattle.domain_core.specs.declared.event.By.TheVariants.{Farm}
use Rattle.domain_core.specs.declared.event.Event.TheVariants.{Move}
use Rattle.domain_core.specs.declared.event.Refusal.{Refusal}
use Rattle.domain_core.specs.PrivateFarm.{State, Call, next, answers, after}
use Rattle.domain_core.specs.Journal.{AnsweredCall, expanded}
use Rattle.domain_core.specs.Domain.{DomainValue, state_of, gained, UnlessNoMemory}

-- the farm's call for a Move of a port
abbrev pub move_of : ℕ → Call
move_of port = record { by = Farm; event = Move port }

-- its calls for a Move of each port below this number, in order
abbrev pub moves_of : ℕ → List Call
moves_of zero = []
moves_of (suc port) = moves_of port ++ move_of port ∷ []

-- what a journal gains by calls, in order
abbrev pub all_gained : PartData → State → List Call → List AnsweredCall
all_gained part s [] = []
all_gained part s (call ∷ calls) =
    gained part s call (next part s call).1 ++ all_gained part (next part s call).0 calls

-- whether there is any of it
abbrev pub is_any : List AnsweredCall → Bool
is_any [] = false
is_any (a ∷ history) = true

-- calls were all answered; the domain is what they make of it, and its journal gained exactly what is recorded of them;
-- and whether that was anything
pub record AreDone (calls : List Call) (d : DomainValue) (went : Bool) (e : DomainValue) : Type 0 where
  pub answered : All IsOk (answers d.machine.part (state_of d) calls)
  pub state : state_of e ≡ after d.machine.part (state_of d) calls
  pub journal : expanded e.journal ≡ expanded d.journal ++ all_gained d.machine.part (state_of d) calls
  pub any : went ≡ is_any (all_gained d.machine.part (state_of d) calls)
  pub part : e.machine.part ≡ d.machine.part
  pub ports : e.machine.switch.ports ≡ d.machine.switch.ports

-- a call is refused exactly as the farm refuses it, NoMemory aside
abbrev pub IsRefused : Call → DomainValue → Refusal → Type 0
IsRefused call d refusal = UnlessNoMemory (Err refusal) (Err refusal ≡ (next d.machine.part (state_of d) call).1)

-- the Moves of the ports before it were done, and that of a port was refused
pub record StopsAt (port : ℕ) (d : DomainValue) (refusal : Refusal) (e : DomainValue) : Type 0 where
  pub went : Bool
  pub before : AreDone (moves_of port) d went e
  pub refused : IsRefused (move_of port) e refusal
  pub below : port < d.machine.part.count

-- the Moves of all ports were done, and whether a packet went; or those of the ports before one were, whose Move was
-- refused
abbrev pub HaveMoved : DomainValue → Result Bool Refusal → DomainValue → Type 0
HaveMoved d (Ok went) e = AreDone (moves_of d.machine.part.count) d went e
HaveMoved d (Err refusal) e = (port : ℕ) × StopsAt port d refusal e

-- What the two halves of a turn do to the domain that is lent to them, and to the slot of the ticket.
use Rattle.std.specs.Prelude.{ℕ, ◌≡◌, ◌≢◌, ◌↔◌, ◌&&◌, nat_lt, length, Bool, true, false, Option, Some, None, Result, Ok, Err}
use Rattle.domain_core.specs.declared.event.Event.TheVariants.{Step}
use Rattle.domain_core.specs.declared.event.Refusal.{Refusal}
use Rattle.domain_core.specs.declared.event.Refusal.TheVariants.{NoSuch, JournalFull}
use Rattle.domain_core.specs.Machine.{is_recorded}
use Rattle.domain_core.specs.MachineValue.{machine_of}
use Rattle.domain_core.specs.Domain.{DomainValue, IsPastLimit}
use Rattle.domain_core.specs.Ticket.{TicketValue, IsCurrent, Commits, fresh_ticket}
use Rattle.farm_service.specs.declared.halves.TurnOutcome.{TurnOutcome}
use Rattle.farm_service.specs.declared.halves.Turned.{Turned}
use Rattle.farm_service.specs.declared.halves.Turned.TheVariants.{BurstRecorded, Stale, NoStep}
use Rattle.farm_service.specs.PortMoves.{HaveMoved}

-- the node is there, and a Step of it would be recorded, the limit aside
abbrev pub has_step : DomainValue → ℕ → Bool
has_step d node =
    nat_lt node (length d.machine.part.nodes) && is_recorded d.machine.part (machine_of d.machine) (Step node)

-- the ticket that is checked out is committed, as `Domain::commit_in_place` says
pub record CommitsLent (d : DomainValue) (t : TicketValue) (told : Result Turned Refusal) (e : DomainValue)
    (left : Option TicketValue) : Type 0 where
  pub stale : (told ≡ Ok Stale) ↔ ¬ IsCurrent d t
  pub full : (told ≡ Err JournalFull) ↔ (IsCurrent d t × IsPastLimit d t.steps)
  pub no_such : told ≢ Err NoSuch
  pub copied : told ≢ Ok NoStep
  pub home : told ≡ Ok BurstRecorded → Commits d t e × (left ≡ Some (fresh_ticket t.domain t.number t.start))
  pub same : told ≢ Ok BurstRecorded → (e ≡ d) × (left ≡ Some t)

-- the same for a slot, with whether its ticket is checked out; if none is, nothing changes
abbrev pub CommitsSlot : Bool → DomainValue → Option TicketValue → Result Turned Refusal → DomainValue
    → Option TicketValue → Type 0
CommitsSlot true d (Some t) told e left = CommitsLent d t told e left
CommitsSlot true d None told e left = (told ≡ Ok NoStep) × (e ≡ d) × (left ≡ None)
CommitsSlot false d slot told e left = (told ≡ Ok NoStep) × (e ≡ d) × (left ≡ slot)

-- and then all ports move, unless the ticket was refused
abbrev pub ThenMoves : DomainValue → Result Turned Refusal → Result Bool Refusal → DomainValue → Type 0
ThenMoves home (Ok turned) moved e = HaveMoved home moved e
ThenMoves home (Err refusal) moved e = (moved ≡ Ok false) × (e ≡ home)

-- the end of a turn: first the one and then the other
pub record EndsTurn (checked_out : Bool) (d : DomainValue) (slot : Option TicketValue) (ended : TurnOutcome)
    (e : DomainValue) (left : Option TicketValue) : Type 0 where
  pub home : DomainValue
  pub first : CommitsSlot checked_out d slot ended.turned home left
  pub moves : ThenMoves home ended.turned ended.moved e

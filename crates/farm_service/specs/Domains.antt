-- What is said of a domain that was found under its lock.
use Rattle.std.specs.Prelude.{ℕ, ◌≡◌, ◌≤◌, ◌<◌, ◌+◌, ◌↔◌, IsTrue, List, [], length}
use Rattle.plan_rules.specs.Data.{DomainData}
use Rattle.domain_core.specs.declared.copying.Mark.{Mark}
use Rattle.domain_core.specs.declared.journal.Entry.{Entry}
use Rattle.domain_core.specs.Domain.{DomainValue, IsMeant, IsQuiet, Fits}
use Rattle.domain_core.specs.Journal.{IsKeptWithin, expanded}
use Rattle.domain_core.specs.MachineValue.{machine_of}
use Rattle.domain_core.specs.Marks.{Copies, events_from}
use Rattle.farm_service.specs.declared.room.Room.{Room}
use Rattle.farm_service.specs.declared.status.DomainStatus.{DomainStatus}
use Rattle.farm_service.specs.Rooms.{IsRoomStatusOf}

-- a domain of this number of a plan, which is what its journal says; no entry of the journal is empty, and there are no
-- more than memory is reserved for
pub record IsFound (plan : List DomainData) (number : ℕ) (d : DomainValue) : Type 0 where
  pub fits : Fits plan number d
  pub meant : IsMeant d
  pub kept : IsKeptWithin d.journal d.reserved

-- how many events it has recorded, how many it may record, whether it is quiet, and how it is with its room
pub record IsStatusOf (room : Room) (d : DomainValue) (status : DomainStatus) : Type 0 where
  pub recorded : status.recorded ≡ length (expanded d.journal)
  pub limit : status.limit ≡ d.machine.part.limit
  pub quiet : IsTrue status.is_quiet ↔ IsQuiet d.machine.part (machine_of d.machine)
  pub room_status : IsRoomStatusOf room d status.room

-- entries of the journal of a domain of this number were appended to `held` others, from a mark up to another: all
-- from the mark on, if `places` places are enough or one is left; none, if the mark is past the journal's end
pub record GainsCopies (plan : List DomainData) (number : ℕ) (from to : Mark) (old new : List Entry)
    (held places : ℕ) : Type 0 where
  pub domain : DomainValue
  pub found : IsFound plan number domain
  pub copies : Copies domain.journal from to old new
  pub all : length domain.journal + held ≤ from.entries + places → events_from to domain.journal ≡ []
  pub rest : length new < places → events_from to domain.journal ≡ []
  pub past : length domain.journal ≤ from.entries → (to ≡ from) × (new ≡ old)

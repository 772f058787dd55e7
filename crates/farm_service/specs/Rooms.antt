-- How much memory a domain may take for its journal and for the lists of its users, and when it rests.
use Rattle.std.specs.Prelude.{ℕ, ◌≡◌, ◌≤◌, ◌↔◌, ◌*◌, ◌/◌, ◌^◌, ◌==◌, ◌-◌, if◌then◌else◌, length, min, Some}
use Rattle.domain_core.specs.Domain.{DomainValue}
use Rattle.farm_service.specs.declared.room.Room.{Room}
use Rattle.farm_service.specs.declared.resting.RestCause.TheVariants.{RoomUsedUp}
use Rattle.farm_service.specs.declared.status.RoomStatus.{RoomStatus}

-- how many bytes an entry of a journal takes
abbrev pub entry_bytes : ℕ
entry_bytes = 24

-- for how many entries memory is reserved: none if there is no bound, which is as many bytes as a number of 64 bits can
-- say
abbrev pub reserved_entries : Room → ℕ
reserved_entries room = if room.bytes == 2 ^ 64 - 1 then 0 else room.bytes / entry_bytes

-- that many bytes of a room are taken, so that nodes and packets rest: a quarter is kept for the commands of users
abbrev pub IsUsedUp : Room → ℕ → Type 0
IsUsedUp room taken = room.bytes - room.bytes / 4 ≤ taken

-- how many bytes the entries of a domain's journal take, as far as a number of 64 bits can say
abbrev pub least_bytes : DomainValue → ℕ
least_bytes d = min (entry_bytes * length d.journal) (2 ^ 64 - 1)

-- how many bytes of the room are taken, no fewer than the entries of the journal take, and how many there are; and the
-- domain is said to rest because its room is used up exactly if that many bytes are taken
pub record IsRoomStatusOf (room : Room) (d : DomainValue) (status : RoomStatus) : Type 0 where
  pub least : least_bytes d ≤ status.bytes
  pub room_bytes : status.room_bytes ≡ room.bytes
  pub used_up : (status.rests ≡ Some RoomUsedUp) ↔ IsUsedUp room status.bytes

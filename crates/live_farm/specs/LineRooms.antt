-- How much room a line may need in its domain and in the domain's records, and that there is less.
use Rattle.std.specs.Prelude.{◌<◌, ◌+◌, ◌*◌, ◌⊎◌, ℕ, length}
use Rattle.domain_core.specs.Domain.{DomainValue}
use Rattle.farm_service.specs.declared.status.RoomStatus.{RoomStatus}
use Rattle.farm_service.specs.Domains.{IsFound}
use Rattle.farm_service.specs.Rooms.{IsRoomStatusOf}
use Rattle.script_lines.specs.declared.command.Command.{Command}
use Rattle.script_lines.specs.declared.command.Command.TheVariants as command
use Rattle.live_lines.specs.declared.asked.LiveRequest.TheVariants as request
use Rattle.live_farm.specs.declared.group.UserGroup.{UserGroup}
use Rattle.live_farm.specs.declared.queued.QueuedRequest.{QueuedRequest}
use Rattle.live_farm.specs.declared.queued.QueuedRequest.TheVariants as line
use Rattle.live_farm.specs.declared.record.RecordSizes.{RecordSizes}

-- how many commands a line of a script asks at the most: one that collects asks until nothing has come
abbrev pub most_commands : Command → ℕ
most_commands (command.Config bytes) = length bytes.items
most_commands (command.Write host bytes) = length bytes.items
most_commands (command.Boot host code) = length code.items + 1
most_commands (command.Poke host address word) = 9
most_commands (command.Peek host address) = 9
most_commands (command.Collect host) = 4097
most_commands (command.Reset node) = 1
most_commands (command.Look node) = 1

-- how many commands a request asks at the most
abbrev pub most_commands_of : QueuedRequest → ℕ
most_commands_of (line.Asked (request.Script command)) = most_commands command
most_commands_of (line.Asked (request.Domain whole)) = 0
most_commands_of (line.Wrong w) = 0
most_commands_of line.OperatorRestart = 0

-- how many bytes a command takes at the most: its entry in the journal, what a look showed, and its place in the
-- user's list
abbrev pub command_bytes : ℕ
command_bytes = 24 + 28 + 36

-- how many bytes the line of an event takes at the most in a record
abbrev pub record_line_bytes : ℕ
record_line_bytes = 128

-- if that many bytes of a room are taken, it has too few for that many commands of `each` bytes
abbrev pub Lacks : ℕ → ℕ → ℕ → ℕ → Type 0
Lacks each taken room commands = (0 < commands) × (room < taken + commands * each)

-- the room of these users' domain has too little for that many commands, as a status of it said
pub record LacksDomainRoom (group : UserGroup) (commands : ℕ) : Type 0 where
  pub domain : DomainValue
  pub status : RoomStatus
  pub found : IsFound group.service.now.plan group.domain domain
  pub status_of : IsRoomStatusOf group.service.now.room domain status
  pub lacks : Lacks command_bytes status.bytes group.service.now.room.bytes commands

-- what a call of a record says of its sizes
abbrev pub SizesSay : Type 0 → Type 1
SizesSay K = K → RecordSizes → Type 0

-- the room of a domain's records has too little for that many commands, as the newest of them said
pub record LacksRecordRoom {K : Type 0} (had_sizes : SizesSay K) (kept : K) (room commands : ℕ) : Type 0 where
  pub sizes : RecordSizes
  pub had : had_sizes kept sizes
  pub lacks : Lacks record_line_bytes sizes.newest room commands

-- one of both has too little for what a request asks at the most
abbrev pub LacksRoom : {K : Type 0} → SizesSay K → K → ℕ → UserGroup → QueuedRequest → Type 0
LacksRoom had_sizes kept room group asked =
    LacksDomainRoom group (most_commands_of asked) ⊎ LacksRecordRoom had_sizes kept room (most_commands_of asked)

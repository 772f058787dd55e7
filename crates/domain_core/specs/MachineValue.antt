-- What contracts see of a machine: its part, its switch, and its nodes and hosts; and what it stands for.
use Rattle.std.specs.Prelude.{◌≡◌, ◌<◌, ◌≤◌, ℕ, List, length, map, Option, None, slice_index_or}
use Rattle.plan_rules.specs.Part.{PartData}
use Rattle.virtual_switch.specs.SwitchValue.{SwitchValue, private_of}
use Rattle.domain_core.specs.declared.device.Device.{Device}
use Rattle.domain_core.specs.declared.event.Event.{Event}
use Rattle.domain_core.specs.declared.event.Event.TheVariants.{Config, Write, Read, Reset, Look, Step, Move}
use Rattle.domain_core.specs.Devices.{DeviceStates, device_at, memories}
use Rattle.domain_core.specs.Machine.{Machine}

-- what contracts see of a machine
pub record MachineValue : Type 0 where
  pub part : PartData
  pub switch : SwitchValue
  pub devices : DeviceStates

-- the machine that the value stands for
abbrev pub machine_of : MachineValue → Machine
machine_of v = record { switch = private_of v.switch; rest = v.switch.rest; devices = v.devices }

-- it has the ports, at most 32, and the nodes and the hosts that its part says
pub record IsOfPart (v : MachineValue) : Type 0 where
  pub few : v.part.count ≤ 32
  pub count : length v.switch.ports ≡ v.part.count
  pub memories : memories v.devices ≡ map (λ n. n.memory) v.part.nodes
  pub hosts : length v.devices.hosts ≡ length v.part.hosts

-- a table has the device of each port
abbrev pub AreJoined : PartData → List (Option Device) → Type 0
AreJoined part table = (port : ℕ) → port < part.count → slice_index_or table port None ≡ device_at part port

-- the host, node or port of an event is one of the part's
abbrev pub IsIn : PartData → Event → Type 0
IsIn part (Config byte) = Unit {0}
IsIn part (Write host byte) = host < length part.hosts
IsIn part (Read host) = host < length part.hosts
IsIn part (Reset node) = node < length part.nodes
IsIn part (Look node) = node < length part.nodes
IsIn part (Step node) = node < length part.nodes
IsIn part (Move port) = port < part.count

-- A Move of a port: the packet that waits at its device goes through the switch. It is written of any store of devices,
-- so that it is the same for one domain as for all domains of a farm. IMS C004 data sheet, link switching; what is
-- lost, what stays and the order of copies are our choice.
use Rattle.std.specs.Prelude.{ℕ, Bool, List, [], ◌∷◌, filter, Option, Some, None, if◌then◌else◌}
use Rattle.std.specs.List.{list_all, range_with_len}
use Rattle.std.specs.FinSet as set
use Rattle.os_link.specs.declared.latch.Packet.{Packet}
use Rattle.crossbar.specs.Switch.{Switch, drives}
use Rattle.plan_rules.specs.Part.{PartData}
use Rattle.domain_core.specs.declared.device.Device.{Device}
use Rattle.domain_core.specs.declared.event.Moved.{Moved}
use Rattle.domain_core.specs.declared.event.Moved.TheVariants.{Nothing, Lost, Stayed, Passed}
use Rattle.domain_core.specs.Devices.{DeviceStates, device_at, packet_waiting, taken_from_device, arrived_at_device}

-- which devices are joined to the ports of a switch: S is what keeps the devices, and D says where in it one of them is
pub record Joining (S D : Type 0) : Type 0 where
  -- all ports, in the order in which copies arrive
  pub ports : List ℕ
  -- where the device of a port is
  pub joined : ℕ → Option D
  -- the nodes and hosts among which it is
  pub devices : S → D → DeviceStates
  -- others are put in their place
  pub put : D → DeviceStates → S → S
  -- which of them it is
  pub device : D → Device

-- the outputs that an input drives, in the order of the ports
abbrev pub driven : {S D : Type 0} → Joining S D → Switch → ℕ → List ℕ
driven j s input = filter (drives s input) j.ports

-- all these outputs are ready
abbrev pub are_ready : Switch → List ℕ → Bool
are_ready s outputs = list_all (set.contains s.ready) outputs

-- the packet that leaves a device next
abbrev pub packet_at : {S D : Type 0} → Joining S D → S → D → Option Packet
packet_at j all from = packet_waiting (j.devices all from) (j.device from)

-- it is taken
abbrev pub taken_at : {S D : Type 0} → Joining S D → D → S → S
taken_at j from all = j.put from (taken_from_device (j.device from) (j.devices all from)) all

-- a packet arrives at the device of a port; at a port without one it is lost
abbrev pub delivered_at : {S D : Type 0} → Joining S D → Packet → Option D → S → S
delivered_at j packet None all = all
delivered_at j packet (Some to) all = j.put to (arrived_at_device packet (j.device to) (j.devices all to)) all

-- a packet arrives at the devices of outputs, one after another
abbrev pub copies_arrived : {S D : Type 0} → Joining S D → Packet → List ℕ → S → S
copies_arrived j packet [] all = all
copies_arrived j packet (output ∷ outputs) all =
    copies_arrived j packet outputs (delivered_at j packet (j.joined output) all)

-- what becomes of a packet, by the outputs that its port drives
abbrev pub outcome : Switch → List ℕ → Moved
outcome s [] = Lost
outcome s (output ∷ outputs) = if are_ready s (output ∷ outputs) then Passed else Stayed

-- a packet is taken from its device before it is delivered
abbrev pub moved_by : {S D : Type 0} → Moved → Joining S D → D → Packet → List ℕ → S → S
moved_by Nothing j from packet outputs all = all
moved_by Lost j from packet outputs all = taken_at j from all
moved_by Stayed j from packet outputs all = all
moved_by Passed j from packet outputs all = copies_arrived j packet outputs (taken_at j from all)

-- a Move from a device, by the packet that waits there
abbrev pub sent : {S D : Type 0} → Joining S D → Switch → S → List ℕ → D → Option Packet → S × Moved
sent j s all outputs from None = (all, Nothing)
sent j s all outputs from (Some packet) = (moved_by (outcome s outputs) j from packet outputs all, outcome s outputs)

-- a Move from a port, by the device that is joined to it
abbrev pub moved_from : {S D : Type 0} → Joining S D → Switch → S → List ℕ → Option D → S × Moved
moved_from j s all outputs None = (all, Nothing)
moved_from j s all outputs (Some from) = sent j s all outputs from (packet_at j all from)

-- all devices after a Move of a port, and the answer
abbrev pub moved_through : {S D : Type 0} → Joining S D → Switch → S → ℕ → S × Moved
moved_through j s all port = moved_from j s all (driven j s port) (j.joined port)

-- the devices of one domain, as its part joins them to its virtual ports
abbrev pub joining_of : PartData → Joining DeviceStates Device
joining_of part = record {
  ports = range_with_len 0 part.count;
  joined = device_at part;
  devices = λ d device. d;
  put = λ device new d. new;
  device = λ device. device;
}

-- the devices of a domain after a Move of a port, and the answer
abbrev pub moved : PartData → Switch → DeviceStates → ℕ → DeviceStates × Moved
moved part s d port = moved_through (joining_of part) s d port

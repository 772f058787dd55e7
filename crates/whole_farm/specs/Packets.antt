-- A Move in the whole farm: the packet that waits at the device of a physical port goes to whichever devices are joined
-- to the outputs that this port drives, whosever they are. IMS C004 data sheet, link switching.
use Rattle.std.specs.Prelude.{ℕ, List}
use Rattle.crossbar.specs.Switch.{Switch}
use Rattle.domain_core.specs.declared.event.Moved.{Moved}
use Rattle.domain_core.specs.Devices.{DeviceStates}
use Rattle.domain_core.specs.Moves.{Joining, moved_through}
use Rattle.whole_farm.specs.Places.{Place, put_at, Joined, all_ports, device_in}

-- the nodes and hosts of each domain
abbrev pub AllDevices : Type 0
AllDevices = ℕ → DeviceStates

-- all devices of the farm, as the parts of the plan join them to its physical ports
abbrev pub joining_in : List Place → Joining AllDevices Joined
joining_in plan = record {
  ports = all_ports plan;
  joined = device_in plan;
  devices = λ all at. all at.domain;
  put = λ at. put_at at.domain;
  device = λ at. at.device;
}

-- the devices of all domains after a Move of a physical port, and the answer
abbrev pub moved_in : List Place → Switch → AllDevices → ℕ → AllDevices × Moved
moved_in plan s all port = moved_through (joining_in plan) s all port

-- What waits at a virtual port.
use Rattle.std.specs.Prelude.{◌≡◌, ℕ}
use Rattle.std.specs.Option.{option_and_then}
use Rattle.crossbar.specs.Switch.{drives}
use Rattle.plan_rules.specs.Part.{PartData}
use Rattle.domain_core.specs.declared.port_state.PortState.{PortState}
use Rattle.domain_core.specs.Devices.{device_at, packet_waiting}
use Rattle.domain_core.specs.Machine.{Machine}
use Rattle.domain_core.specs.Moves.{moved}
use Rattle.domain_core.specs.Routes.{Marks}

-- the packet that leaves the port's device next, the outputs that the port drives, and what a Move of the port would
-- come to
pub record IsPortState (part : PartData) (m : Machine) (port : ℕ) (state : PortState) : Type 0 where
  pub packet : state.packet ≡ option_and_then (packet_waiting m.devices) (device_at part port)
  pub drives_is : Marks state.drives (drives m.switch port)
  pub moved_is : state.moved ≡ (moved part m.switch m.devices port).1

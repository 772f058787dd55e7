-- Where a packet is that was sent at a link, and what comes to a link, in the virtual numbers of a domain.
-- Transputer Reference Manual, links; IMS C004 data sheet, link switching.
use Rattle.std.specs.Prelude.{◌≡◌, ◌<◌, ℕ, true, false, Option, Some, None, is_some, slice_get}
use Rattle.std.specs.Option.{option_and_then}
use Rattle.os_link.specs.End.{fresh_end}
use Rattle.os_link.specs.declared.end.LinkEnd.{LinkEnd}
use Rattle.crossbar.specs.Switch.{drives}
use Rattle.link_channels.specs.Links.{at}
use Rattle.link_channels.specs.declared.number.LinkNumber.{LinkNumber}
use Rattle.bootstrap.specs.declared.node.Node.{Node}
use Rattle.plan_rules.specs.Part.{PartData}
use Rattle.domain_core.specs.declared.device.Device.{Device}
use Rattle.domain_core.specs.declared.device.Device.TheVariants.{Host, Link}
use Rattle.domain_core.specs.declared.event.Moved.{Moved}
use Rattle.domain_core.specs.Devices.{DeviceStates, device_at, packet_waiting}
use Rattle.domain_core.specs.Hosts.{HostState}
use Rattle.domain_core.specs.Machine.{Machine}
use Rattle.domain_core.specs.Moves.{moved}
use Rattle.domain_core.specs.Routes.{Marks}
use Rattle.node_causes.specs.declared.passage.SentByte.{SentByte}
use Rattle.node_causes.specs.declared.passage.SentByte.TheVariants as sent
use Rattle.node_causes.specs.declared.passage.Arrival.{Arrival}
use Rattle.node_causes.specs.declared.passage.Arrival.TheVariants as arrival
use Rattle.node_causes.specs.declared.passage.Supply.{Supply}
use Rattle.node_causes.specs.declared.passage.Supply.TheVariants as supply

-- a port to which the device is joined, or none if there is none
abbrev pub IsPortOf : PartData → Device → Option ℕ → Type 0
IsPortOf part device (Some port) = (port < part.count) × (device_at part port ≡ Some device)
IsPortOf part device None = (port : ℕ) → port < part.count → ¬ (device_at part port ≡ Some device)

-- an input that drives an output, or none if there is none
abbrev pub IsInputOf : PartData → Machine → ℕ → Option ℕ → Type 0
IsInputOf part m output (Some input) = (input < part.count) × (drives m.switch input output ≡ true)
IsInputOf part m output None = (input : ℕ) → input < part.count → drives m.switch input output ≡ false

-- the link end of a host, as opened if there is none
abbrev pub end_of_host : Option HostState → LinkEnd
end_of_host (Some host) = host.end
end_of_host None = fresh_end

-- the link end of a node's link
abbrev pub end_of_link : LinkNumber → Option Node → LinkEnd
end_of_link link (Some node) = (at link node.links).end
end_of_link link None = fresh_end

-- the link end of a device
abbrev pub end_at : DeviceStates → Device → LinkEnd
end_at d (Host number) = end_of_host (slice_get d.hosts number)
end_at d (Link number link) = end_of_link link (slice_get d.nodes number)

-- what a Move of a port would be answered
abbrev pub answer_of_move : PartData → Machine → ℕ → Moved
answer_of_move part m port = (moved part m.switch m.devices port).1

-- where the byte is that the device sent last: it has no port; it waits there; or it left, and these outputs are driven
-- now
abbrev pub IsSent : PartData → Machine → Device → SentByte → Type 0
IsSent part m device sent.Unwired = IsPortOf part device None
IsSent part m device (sent.Waits port moved) =
    IsPortOf part device (Some port) × (is_some (end_at m.devices device).latch.byte ≡ true)
    × (moved ≡ answer_of_move part m port)
IsSent part m device (sent.Left port mask) =
    IsPortOf part device (Some port) × (is_some (end_at m.devices device).latch.byte ≡ false)
    × Marks mask (drives m.switch port)

-- what became of a byte that came to an output: no device is there; it is in the buffer; its acknowledge waits at the
-- port; or neither
abbrev pub IsArrival : PartData → Machine → ℕ → Arrival → Type 0
IsArrival part m output arrival.Nobody = device_at part output ≡ None
IsArrival part m output (arrival.Held device) =
    (device_at part output ≡ Some device) × (is_some (end_at m.devices device).input.buffer ≡ true)
IsArrival part m output (arrival.Acknowledged device moved) =
    (device_at part output ≡ Some device) × (is_some (end_at m.devices device).input.buffer ≡ false)
    × ((end_at m.devices device).latch.acknowledge ≡ true) × (moved ≡ answer_of_move part m output)
IsArrival part m output (arrival.Gone device) =
    (device_at part output ≡ Some device) × (is_some (end_at m.devices device).input.buffer ≡ false)
    × ((end_at m.devices device).latch.acknowledge ≡ false)

-- from where bytes come to a device: it has no port; no input drives its port's output; or this one does, with what
-- waits there
abbrev pub IsSupply : PartData → Machine → Device → Supply → Type 0
IsSupply part m device supply.Unwired = IsPortOf part device None
IsSupply part m device (supply.Undriven port) = IsPortOf part device (Some port) × IsInputOf part m port None
IsSupply part m device (supply.Driven port input source packet moved) =
    IsPortOf part device (Some port) × IsInputOf part m port (Some input) × (source ≡ device_at part input)
    × (packet ≡ option_and_then (packet_waiting m.devices) (device_at part input))
    × (moved ≡ answer_of_move part m input)

-- The devices of a domain: its nodes and hosts, and which link or host is joined to a virtual port.
use Rattle.std.specs.Prelude.{◌≡◌, false, ℕ, ◌+◌, ◌<◌, ◌==◌, List, [], ◌∷◌, length, map, Option, Some, None, if◌then◌else◌, slice_index_or, slice_set}
use Rattle.os_link.specs.End.{next_of}
use Rattle.os_link.specs.declared.latch.Packet.{Packet}
use Rattle.link_channels.specs.Links.{at, packet_arrived, packet_taken}
use Rattle.link_channels.specs.declared.number.LinkNumber.TheVariants.{Zero, One, Two, Three}
use Rattle.bootstrap.specs.declared.node.Node.{Node}
use Rattle.bootstrap.specs.Opening.{opened_node}
use Rattle.bootstrap.specs.Step.{is_step_recorded}
use Rattle.plan_rules.specs.declared.part.NodePart.{NodePart}
use Rattle.plan_rules.specs.declared.part.HostPart.{HostPart}
use Rattle.plan_rules.specs.Part.{PartData}
use Rattle.domain_core.specs.declared.device.Device.{Device}
use Rattle.domain_core.specs.declared.device.Device.TheVariants.{Host, Link}
use Rattle.domain_core.specs.Hosts.{HostState, delivered, packet_left}
use Rattle.domain_core.specs.Hosts.{opened_host}

-- ---- which device is joined to a port: the first host or link of the part that names it

-- the first device, or the other if there is none
abbrev pub or_else : Option Device → Option Device → Option Device
or_else None other = other
or_else (Some device) other = Some device

-- the first host at a port, of hosts whose first has this number
abbrev pub host_at_port : ℕ → List HostPart → ℕ → Option Device
host_at_port number [] port = None
host_at_port number (h ∷ hosts) port =
    if h.port == port then Some (Host number) else host_at_port (number + 1) hosts port

-- the device if its link is wired to the port, or else the other
abbrev pub is_wired_to : Option ℕ → ℕ → Option Device → Option Device → Option Device
is_wired_to None port device other = other
is_wired_to (Some wired) port device other = if wired == port then device else other

-- the first of four links, by their numbers, that is wired to a port
abbrev pub link_of_four : ℕ → List (Option ℕ) → ℕ → Option Device
link_of_four number (a ∷ b ∷ c ∷ d ∷ []) port =
    is_wired_to a port (Some (Link number Zero))
    (is_wired_to b port (Some (Link number One))
    (is_wired_to c port (Some (Link number Two))
    (is_wired_to d port (Some (Link number Three)) None)))
link_of_four number _ port = None

-- the first link at a port, of nodes whose first has this number
abbrev pub link_at_port : ℕ → List NodePart → ℕ → Option Device
link_at_port number [] port = None
link_at_port number (n ∷ nodes) port =
    or_else (link_of_four number n.links port) (link_at_port (number + 1) nodes port)

-- the device that is joined to a port, hosts before links
abbrev pub device_at : PartData → ℕ → Option Device
device_at part port = or_else (host_at_port 0 part.hosts port) (link_at_port 0 part.nodes port)

-- ---- the nodes and hosts of a domain

-- nodes and hosts, by their numbers
pub record DeviceStates : Type 0 where
  pub nodes : List Node
  pub hosts : List HostState

-- the node of a number that is there
abbrev pub node_at : DeviceStates → ℕ → Node
node_at d number = slice_index_or d.nodes number (opened_node 0)

-- the host of a number that is there
abbrev pub host_at : DeviceStates → ℕ → HostState
host_at d number = slice_index_or d.hosts number opened_host

-- one node is changed to this
abbrev pub with_node : ℕ → Node → DeviceStates → DeviceStates
with_node number n d = record d { nodes = slice_set d.nodes number n }

-- one host is changed to this
abbrev pub with_host : ℕ → HostState → DeviceStates → DeviceStates
with_host number h d = record d { hosts = slice_set d.hosts number h }

-- nodes and hosts as they are opened
abbrev pub opened_devices : PartData → DeviceStates
opened_devices part =
    record { nodes = map (λ n. opened_node n.memory) part.nodes; hosts = map (λ h. opened_host) part.hosts }

-- the packet that leaves a device next
abbrev pub packet_waiting : DeviceStates → Device → Option Packet
packet_waiting d (Host number) = next_of (host_at d number).end.latch
packet_waiting d (Link number link) = next_of (at link (node_at d number).links).end.latch

-- it is taken
abbrev pub taken_from_device : Device → DeviceStates → DeviceStates
taken_from_device (Host number) d = with_host number (packet_left (host_at d number)) d
taken_from_device (Link number link) d =
    with_node number (record (node_at d number) { links = packet_taken link (node_at d number).links }) d

-- a packet arrives at a device
abbrev pub arrived_at_device : Packet → Device → DeviceStates → DeviceStates
arrived_at_device packet (Host number) d = with_host number (delivered packet (host_at d number)) d
arrived_at_device packet (Link number link) d =
    with_node number (record (node_at d number) { links = packet_arrived link packet (node_at d number).links }) d

-- the device is one of these
abbrev pub HasDevice : DeviceStates → Device → Type 0
HasDevice d (Host number) = number < length d.hosts
HasDevice d (Link number link) = number < length d.nodes

-- how many bytes of memory each node has
abbrev pub memories : DeviceStates → List ℕ
memories d = map (λ n. length n.memory) d.nodes

-- nodes and hosts as they are opened, each node with the memory that it has
abbrev pub reopened : DeviceStates → DeviceStates
reopened d =
    record { nodes = map (λ n. opened_node (length n.memory)) d.nodes; hosts = map (λ h. opened_host) d.hosts }

-- no Step of a node would be recorded
abbrev pub AreQuiet : DeviceStates → Type 0
AreQuiet d = (number : ℕ) → number < length d.nodes → is_step_recorded (node_at d number) ≡ false

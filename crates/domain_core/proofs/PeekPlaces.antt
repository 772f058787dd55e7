-- A host and a node in their places in a machine, and what the Moves
-- between them and the Steps of the node leave, for the rounds of a peek.
use Rattle.std.proofs.Common.{◌≡◌, ℕ, ◌+◌, ◌<◌, ◌≤◌, ◌==◌, true, false, [], ◌∷◌, length, Some, Ok, refl, ◌∙◌, ap, arith}
use Rattle.std.proofs.lemmas.List.{get_or-set_same, set-set}
use Rattle.std.proofs.lemmas.Bool.{lt-ltb, ne_eqb}
use Rattle.std.specs.FinSet as set
use Rattle.os_link.specs.declared.latch.Packet.{Packet}
use Rattle.os_link.specs.End.{next_of}
use Rattle.link_channels.specs.Links.{at, packet_arrived, packet_taken}
use Rattle.link_channels.specs.declared.number.LinkNumber.{LinkNumber}
use Rattle.crossbar.specs.Switch.{Switch}
use Rattle.plan_rules.specs.Part.{PartData}
use Rattle.t414_step.specs.declared.stepping.Stepped.TheVariants.{Ran}
use Rattle.bootstrap.specs.Step.{node_step, has_halted}
use Rattle.bootstrap.specs.Opening.{opened_node}
use Rattle.bootstrap.specs.declared.node.Node.{Node}
use Rattle.domain_core.specs.declared.device.Device.{Device}
use Rattle.domain_core.specs.declared.device.Device.TheVariants.{Host, Link}
use Rattle.domain_core.specs.declared.event.By.{By}
use Rattle.domain_core.specs.declared.event.Event.{Event}
use Rattle.domain_core.specs.declared.event.Event.TheVariants.{Step, Move}
use Rattle.domain_core.specs.declared.event.Reply.{Reply}
use Rattle.domain_core.specs.declared.event.Reply.TheVariants as reply
use Rattle.domain_core.specs.declared.event.Moved.TheVariants.{Passed}
use Rattle.domain_core.specs.Hosts.{HostState, delivered, packet_left}
use Rattle.domain_core.specs.Hosts.{opened_host}
use Rattle.domain_core.specs.Devices.{DeviceStates, device_at, node_at, host_at, with_node, with_host, packet_waiting}
use Rattle.domain_core.specs.Devices.{taken_from_device, arrived_at_device}
use Rattle.domain_core.specs.Machine.{Machine, with_devices, acted, is_recorded}
use Rattle.domain_core.specs.Moves.{driven, joining_of, moved}
use Rattle.domain_core.specs.PrivateFarm.{State, Call, is_known, is_there, next}
use Rattle.domain_core.specs.Peek.{PeekRoute, CanPeek, packet_passed, node_ran}
use Rattle.domain_core.proofs.PeekBounds.{driven-below, node-below}
use Rattle.domain_core.proofs.PeekCalls.{next-recorded}

-- ---- devices in their places

-- the devices with this host and this node instead of those on the route
abbrev pub placed : PeekRoute → DeviceStates → HostState → Node → DeviceStates
placed r d h n = with_host r.host h (with_node r.node n d)

node-placed : (r : PeekRoute) (d : DeviceStates) (h : HostState) (n : Node) → r.node < length d.nodes
    → node_at (placed r d h n) r.node ≡ n
node-placed r d h n lt = get_or-set_same d.nodes r.node n (opened_node 0) lt

host-placed : (r : PeekRoute) (d : DeviceStates) (h : HostState) (n : Node) → r.host < length d.hosts
    → host_at (placed r d h n) r.host ≡ h
host-placed r d h n lt = get_or-set_same d.hosts r.host h opened_host lt

node-replaced : (r : PeekRoute) (d : DeviceStates) (h : HostState) (n other_node : Node)
    → with_node r.node other_node (placed r d h n) ≡ placed r d h other_node
node-replaced r d h n other_node = rw (set-set d.nodes r.node n other_node) refl

host-replaced : (r : PeekRoute) (d : DeviceStates) (h other_host : HostState) (n : Node)
    → with_host r.host other_host (placed r d h n) ≡ placed r d other_host n
host-replaced r d h other_host n = rw (set-set d.hosts r.host h other_host) refl

host-taken : (r : PeekRoute) (d : DeviceStates) (h : HostState) (n : Node) → r.host < length d.hosts
    → taken_from_device (Host r.host) (placed r d h n) ≡ placed r d (packet_left h) n
host-taken r d h n lt =
    ap (λ (g : HostState). with_host r.host (packet_left g) (placed r d h n)) (host-placed r d h n lt)
    ∙ host-replaced r d h (packet_left h) n

host-arrived : (r : PeekRoute) (d : DeviceStates) (h : HostState) (n : Node) (packet : Packet) → r.host < length d.hosts
    → arrived_at_device packet (Host r.host) (placed r d h n) ≡ placed r d (delivered packet h) n
host-arrived r d h n packet lt =
    ap (λ (g : HostState). with_host r.host (delivered packet g) (placed r d h n)) (host-placed r d h n lt)
    ∙ host-replaced r d h (delivered packet h) n

-- a node whose next packet left a link, and one at which a packet arrived there
abbrev pub packet_sent : LinkNumber → Node → Node
packet_sent link n = record n { links = packet_taken link n.links }

-- a node to whose link a packet has come
abbrev pub packet_got : LinkNumber → Packet → Node → Node
packet_got link packet n = record n { links = packet_arrived link packet n.links }

node-taken : (r : PeekRoute) (d : DeviceStates) (h : HostState) (n : Node) → r.node < length d.nodes
    → taken_from_device (Link r.node r.link) (placed r d h n) ≡ placed r d h (packet_sent r.link n)
node-taken r d h n lt =
    ap (λ (m : Node). with_node r.node (packet_sent r.link m) (placed r d h n)) (node-placed r d h n lt)
    ∙ node-replaced r d h n (packet_sent r.link n)

node-arrived : (r : PeekRoute) (d : DeviceStates) (h : HostState) (n : Node) (packet : Packet) → r.node < length d.nodes
    → arrived_at_device packet (Link r.node r.link) (placed r d h n) ≡ placed r d h (packet_got r.link packet n)
node-arrived r d h n packet lt =
    ap (λ (m : Node). with_node r.node (packet_got r.link packet m) (placed r d h n)) (node-placed r d h n lt)
    ∙ node-replaced r d h n (packet_got r.link packet n)

-- ---- one event of a machine

step-acted : (part : PartData) (m : Machine) (number : ℕ) (n after : Node) → node_at m.devices number ≡ n
    → node_step n ≡ (after, Ran)
    → acted part m (Step number) ≡ (with_devices (with_node number after m.devices) m, reply.Stepped Ran)
step-acted part m number n after same equal = rw (same, equal) refl

step-recorded : (part : PartData) (m : Machine) (number : ℕ) (n after : Node)
    → node_at m.devices number ≡ n → node_step n ≡ (after, Ran)
    → has_halted n.state ≡ false
    → is_recorded part m (Step number) ≡ true
step-recorded part m number n after same equal agrees = rw (same, equal, agrees) refl

-- a packet goes from one device to the other that its port drives alone
moved-across : (part : PartData) (s : Switch) (d : DeviceStates) (port output : ℕ) (from to : Device) (packet : Packet)
    → device_at part port ≡ Some from
    → device_at part output ≡ Some to
    → driven (joining_of part) s port ≡ output ∷ [] → set.contains s.ready output ≡ true
    → packet_waiting d from ≡ Some packet
    → moved part s d port ≡ (arrived_at_device packet to (taken_from_device from d), Passed)
moved-across part s d port output from to packet same equal drives ready waits =
    rw (same, drives, waits, ready, equal) refl

-- ---- states on the way of a peek

-- a peek that can be made, and who asks for its events
pub record Peeking : Type 0 where
  pub part : PartData
  pub by : By
  pub route : PeekRoute
  pub address : ℕ
  pub start : State
  pub known : is_known part by ≡ true
  pub can : CanPeek part route address start

-- the state with this host and this node, that many events after the start
abbrev pub standing : Peeking → ℕ → HostState → Node → State
standing peek count h n = record {
  machine = with_devices (placed peek.route peek.start.machine.devices h n) peek.start.machine;
  recorded = peek.start.recorded + count;
}

-- the call by which someone asks for an event
abbrev pub asked : By → Event → Call
asked by event = record { by = by; event = event }

not-full : (recorded count limit : ℕ) → recorded + 27 ≤ limit → count < 27 → (recorded + count == limit) ≡ false
not-full recorded count limit room lt = ne_eqb (recorded + count) limit (λ e. omega arith)

next-standing : (peek : Peeking) (count : ℕ) (h host : HostState) (n node : Node) (event : Event)
    (reply : Reply) → count < 27
    → is_there peek.part (asked peek.by event) ≡ true
    → acted peek.part (standing peek count h n).machine event ≡ ((standing peek count host node).machine, reply)
    → is_recorded peek.part (standing peek count h n).machine event ≡ true
    → next peek.part (standing peek count h n) (asked peek.by event) ≡ (standing peek (count + 1) host node, Ok reply)
next-standing peek count h host n node event reply lt there acts records =
    let more : peek.start.recorded + count + 1 ≡ peek.start.recorded + (count + 1) = omega arith in
    next-recorded peek.part (standing peek count h n) (asked peek.by event)
    (standing peek count host node).machine reply there
    (not-full peek.start.recorded count peek.part.limit peek.can.limit lt) acts records
    ∙ ap (λ (k : ℕ). (record { machine = (standing peek count host node).machine; recorded = k }, Ok reply)) more

-- the call for a Step of the node is answered by what its Step does, and recorded
pub node-steps : (peek : Peeking) (count : ℕ) (h : HostState) (n other_node : Node) → count < 27 → node_step n
    ≡ (other_node, Ran)
    → has_halted n.state ≡ false
    → next peek.part (standing peek count h n) (asked peek.by (Step peek.route.node))
    ≡ (standing peek (count + 1) h other_node, node_ran)
node-steps peek count h n other_node lt same goes =
    let d : DeviceStates = peek.start.machine.devices in
    let here : node_at (placed peek.route d h n) peek.route.node ≡ n = node-placed peek.route d h n peek.can.node in
    next-standing peek count h h n other_node (Step peek.route.node) (reply.Stepped Ran) lt
    (rw (
      peek.known,
      lt-ltb peek.route.node (length peek.part.nodes)
          (node-below peek.part peek.route.link_port peek.route.node peek.route.link peek.can.route.link_device),
    )
    refl)
    (step-acted peek.part (standing peek count h n).machine peek.route.node n other_node here same
    ∙ ap (λ (x : DeviceStates). (with_devices x peek.start.machine, reply.Stepped Ran))
    (node-replaced peek.route d h n other_node))
    (step-recorded peek.part (standing peek count h n).machine peek.route.node n other_node here same goes)

port-moves : (peek : Peeking) (count port : ℕ) (h host : HostState) (n node : Node) → count < 27
    → port < peek.part.count
    → moved peek.part peek.start.machine.switch (placed peek.route peek.start.machine.devices h n) port
    ≡ (placed peek.route peek.start.machine.devices host node, Passed)
    → next peek.part (standing peek count h n) (asked peek.by (Move port))
    ≡ (standing peek (count + 1) host node, packet_passed)
port-moves peek count port h host n node lt below same =
    next-standing peek count h host n node (Move port) (reply.Moved Passed) lt
    (rw (peek.known, lt-ltb port peek.part.count below) refl) (rw same refl) (rw same refl)

-- the packet that waits at the host goes to the link
pub host-moves : (peek : Peeking) (count : ℕ) (h : HostState) (n : Node) (packet : Packet) → count < 27
    → next_of h.end.latch ≡ Some packet
    → next peek.part (standing peek count h n) (asked peek.by (Move peek.route.host_port))
    ≡ (standing peek (count + 1) (packet_left h) (packet_got peek.route.link packet n), packet_passed)
host-moves peek count h n packet lt waits =
    let d : DeviceStates = peek.start.machine.devices in
    let link : Device = Link peek.route.node peek.route.link in
    port-moves peek count peek.route.host_port h (packet_left h) n (packet_got peek.route.link packet n) lt
    (driven-below peek.part peek.start.machine.switch peek.route.link_port peek.route.host_port peek.can.switch.back)
    (moved-across peek.part peek.start.machine.switch (placed peek.route d h n) peek.route.host_port
    peek.route.link_port
    (Host peek.route.host) link packet peek.can.route.host_device peek.can.route.link_device
    peek.can.switch.there peek.can.switch.link_ready
    (ap (λ (g : HostState). next_of g.end.latch) (host-placed peek.route d h n peek.can.host) ∙ waits)
    ∙ ap (λ (x : DeviceStates). (arrived_at_device packet link x, Passed)) (host-taken peek.route d h n peek.can.host)
    ∙ ap (λ (x : DeviceStates). (x, Passed)) (node-arrived peek.route d (packet_left h) n packet peek.can.node))

-- the packet that waits at the link goes to the host
pub link-moves : (peek : Peeking) (count : ℕ) (h : HostState) (n : Node) (packet : Packet) → count < 27
    → next_of (at peek.route.link n.links).end.latch ≡ Some packet
    → next peek.part (standing peek count h n) (asked peek.by (Move peek.route.link_port))
    ≡ (standing peek (count + 1) (delivered packet h) (packet_sent peek.route.link n), packet_passed)
link-moves peek count h n packet lt waits =
    let d : DeviceStates = peek.start.machine.devices in
    let link : Device = Link peek.route.node peek.route.link in
    port-moves peek count peek.route.link_port h (delivered packet h) n (packet_sent peek.route.link n) lt
    (driven-below peek.part peek.start.machine.switch peek.route.host_port peek.route.link_port peek.can.switch.there)
    (moved-across peek.part peek.start.machine.switch (placed peek.route d h n) peek.route.link_port
    peek.route.host_port link
    (Host peek.route.host) packet peek.can.route.link_device peek.can.route.host_device
    peek.can.switch.back peek.can.switch.host_ready
    (ap (λ (m : Node). next_of (at peek.route.link m.links).end.latch)
    (node-placed peek.route d h n peek.can.node) ∙ waits)
    ∙ ap (λ (x : DeviceStates). (arrived_at_device packet (Host peek.route.host) x, Passed))
    (node-taken peek.route d h n peek.can.node)
    ∙ ap (λ (x : DeviceStates). (x, Passed)) (host-arrived peek.route d h (packet_sent peek.route.link n)
    packet peek.can.host))

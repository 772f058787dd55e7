-- What a peek answers: nine rounds of Moves and Steps between a host and a link of a node that boots. Transputer
-- Reference Manual, links, and bootstrapping, peek.
use Rattle.std.specs.Prelude.{ℕ, zero, suc, ◌+◌, ◌<◌, ◌≤◌, ◌^◌, ◌≡◌, true, false, List, [], ◌∷◌, ◌++◌, map, length, Some, None, Ok}
use Rattle.std.specs.FinSet as set
use Rattle.os_link.specs.End.{fresh_end}
use Rattle.os_link.specs.declared.end.LinkEnd.{LinkEnd}
use Rattle.link_channels.specs.Links.{at, acknowledge_cleared_at}
use Rattle.link_channels.specs.declared.number.LinkNumber.{LinkNumber}
use Rattle.node_memory.specs.Bytes.{word_at}
use Rattle.crossbar.specs.Switch.{Switch}
use Rattle.t414_step.specs.declared.stepping.Stepped.TheVariants.{Ran}
use Rattle.bootstrap.specs.Messages.{bytes_of_word}
use Rattle.bootstrap.specs.Step.{or_zero}
use Rattle.bootstrap.specs.declared.node.Node.{Node}
use Rattle.bootstrap.specs.declared.state.NodeState.TheVariants.{WantsControl}
use Rattle.plan_rules.specs.Part.{PartData}
use Rattle.domain_core.specs.declared.device.Device.TheVariants.{Host, Link}
use Rattle.domain_core.specs.declared.event.By.{By}
use Rattle.domain_core.specs.declared.event.Event.{Event}
use Rattle.domain_core.specs.declared.event.Event.TheVariants.{Step, Move}
use Rattle.domain_core.specs.declared.event.Reply.TheVariants as reply
use Rattle.domain_core.specs.declared.event.Moved.TheVariants.{Passed}
use Rattle.domain_core.specs.Hosts.{HostState}
use Rattle.domain_core.specs.Devices.{device_at, node_at, host_at, with_node, with_host}
use Rattle.domain_core.specs.Machine.{Machine, with_devices}
use Rattle.domain_core.specs.Moves.{driven, joining_of}
use Rattle.domain_core.specs.PrivateFarm.{State, Answer, Call, is_known, answers, after}

-- a host and a link of a node, each with the port that it is joined to
pub record PeekRoute : Type 0 where
  pub host : ℕ
  pub host_port : ℕ
  pub node : ℕ
  pub link : LinkNumber
  pub link_port : ℕ

-- ---- where a peek may begin

-- the part has both devices at their ports
pub record HasRoute (part : PartData) (r : PeekRoute) : Type 0 where
  pub host_device : device_at part r.host_port ≡ Some (Host r.host)
  pub link_device : device_at part r.link_port ≡ Some (Link r.node r.link)

-- each port drives the other alone, and both outputs are ready
pub record IsOpen (part : PartData) (s : Switch) (r : PeekRoute) : Type 0 where
  pub there : driven (joining_of part) s r.host_port ≡ r.link_port ∷ []
  pub back : driven (joining_of part) s r.link_port ≡ r.host_port ∷ []
  pub host_ready : set.contains s.ready r.host_port ≡ true
  pub link_ready : set.contains s.ready r.link_port ≡ true

-- what a host sends for the word at an address: 1, and the address
abbrev pub peek_message : ℕ → List ℕ
peek_message address = 1 ∷ bytes_of_word address

-- the sending queue is the message, its first byte is posted and its acknowledge awaited, nothing else waits or is
-- held, and 4 bytes have room
pub record Asks (address : ℕ) (h : HostState) : Type 0 where
  pub sending : h.sending ≡ peek_message address
  pub latch : h.end.latch ≡ record { byte = Some 1; acknowledge = false }
  pub awaits : h.end.output.awaits ≡ true
  pub buffer : h.end.input.buffer ≡ None
  pub room : length h.received + 4 ≤ 4096

-- a control byte is wanted, no link holds a byte, and at this one nothing waits and no acknowledge is awaited
pub record Listens (link : LinkNumber) (n : Node) : Type 0 where
  pub state : n.state ≡ WantsControl
  pub buffers : (other : LinkNumber) → (at other n.links).end.input.buffer ≡ None
  pub latch : (at link n.links).end.latch ≡ fresh_end.latch
  pub output : (at link n.links).end.output.awaits ≡ false

-- the machine has both devices, the host asks for the word, the node listens, and 27 events have room
pub record CanPeek (part : PartData) (r : PeekRoute) (address : ℕ) (s : State) : Type 0 where
  pub route : HasRoute part r
  pub switch : IsOpen part s.machine.switch r
  pub host : r.host < length s.machine.devices.hosts
  pub node : r.node < length s.machine.devices.nodes
  pub asks : Asks address (host_at s.machine.devices r.host)
  pub listens : Listens r.link (node_at s.machine.devices r.node)
  pub limit : s.recorded + 27 ≤ part.limit
  pub word : address < 2 ^ 32

-- ---- the events

-- a list repeated this number of times
abbrev pub repeated : {A : Type 0} → ℕ → List A → List A
repeated zero xs = []
repeated (suc count) xs = xs ++ repeated count xs

-- a byte goes from the host to the node, which takes it, and the acknowledge goes back
abbrev pub byte_there : PeekRoute → List Event
byte_there r = Move r.host_port ∷ Step r.node ∷ Move r.link_port ∷ []

-- a byte goes from the node to the host, and the acknowledge goes back to the node, which takes it
abbrev pub byte_back : PeekRoute → List Event
byte_back r = Move r.link_port ∷ Move r.host_port ∷ Step r.node ∷ []

-- the five bytes of the message, and the four of the word
abbrev pub peek_calls : By → PeekRoute → List Call
peek_calls by r =
    map (λ event. record { by = by; event = event }) (repeated 5 (byte_there r) ++ repeated 4 (byte_back r))

-- ---- what comes of them

-- the answer of a Move that passed its packet
abbrev pub packet_passed : Answer
packet_passed = Ok (reply.Moved Passed)

-- the answer of a Step that ran
abbrev pub node_ran : Answer
node_ran = Ok (reply.Stepped Ran)

-- the answers to the 27 events
abbrev pub peek_answers : List Answer
peek_answers =
    repeated 5 (packet_passed ∷ node_ran ∷ packet_passed ∷ [])
    ++ repeated 4 (packet_passed ∷ packet_passed ∷ node_ran ∷ [])

-- a link end at which nothing waits, is buffered or is awaited, with the overruns that it has
abbrev pub at_rest : LinkEnd → LinkEnd
at_rest e = record fresh_end { input = record { buffer = None; overruns = e.input.overruns } }

-- the message is gone, and bytes were received
abbrev pub host_after_peek : List ℕ → HostState → HostState
host_after_peek bytes h = record { sending = []; received = h.received ++ bytes; end = at_rest h.end }

-- the bytes of the word at an address, least significant first; four zeros if it lies outside memory
abbrev pub word_bytes : Node → ℕ → List ℕ
word_bytes n address = bytes_of_word (or_zero (word_at n.memory address))

-- a node whose link no longer knows of an acknowledge that came
abbrev pub quieted : LinkNumber → Node → Node
quieted link n = record n { links = acknowledge_cleared_at link n.links }

-- the machine after a peek: the host has received the word, the link knows of no acknowledge, and all else is as
-- before, so the node wants a control byte again
abbrev pub after_peek : PeekRoute → ℕ → Machine → Machine
after_peek r address m =
    let n = node_at m.devices r.node in
    let h = host_at m.devices r.host in
    with_devices
    (with_host r.host (host_after_peek (word_bytes n address) h) (with_node r.node (quieted r.link n) m.devices)) m

-- the events leave exactly that, each is recorded, and no packet is lost or stays
pub record Peeks (part : PartData) (by : By) (r : PeekRoute) (address : ℕ) (s : State) : Type 0 where
  pub state : after part s (peek_calls by r)
      ≡ record { machine = after_peek r address s.machine; recorded = s.recorded + 27 }
  pub answers : answers part s (peek_calls by r) ≡ peek_answers

-- a host that asks a node which listens receives the word, no matter who asks for the events
abbrev pub PeekAnswersTheWord : Type 0
PeekAnswersTheWord =
    (part : PartData) (by : By) (r : PeekRoute) (address : ℕ) (s : State) → is_known part by ≡ true
    → CanPeek part r address s → Peeks part by r address s

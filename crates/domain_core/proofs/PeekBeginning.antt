-- The host, the node and the state at the beginning of a peek, said by their parts, for the law
-- `peek_answers_the_word`.
use Rattle.std.proofs.Common.{◌≡◌, ℕ, ◌+◌, Bool, false, List, ◌∷◌, Option, Some, None, ◌∙◌, ap, sym, arith}
use Rattle.std.specs.Prelude.{slice_set}
use Rattle.std.proofs.lemmas.List.{set-get_or}
use Rattle.os_link.specs.End.{fresh_end}
use Rattle.os_link.specs.declared.end.LinkEnd.{LinkEnd}
use Rattle.os_link.specs.declared.latch.Latch.{Latch}
use Rattle.link_channels.specs.Links.{at}
use Rattle.link_channels.specs.declared.number.LinkNumber.{LinkNumber}
use Rattle.bootstrap.specs.Messages.{bytes_of_word}
use Rattle.bootstrap.specs.Opening.{opened_node}
use Rattle.bootstrap.specs.declared.node.Node.{Node}
use Rattle.bootstrap.specs.declared.state.NodeState as doing
use Rattle.bootstrap.specs.declared.state.NodeState.TheVariants.{WantsControl}
use Rattle.domain_core.specs.Hosts.{HostState}
use Rattle.domain_core.specs.Hosts.{opened_host}
use Rattle.domain_core.specs.Devices.{DeviceStates, node_at, host_at}
use Rattle.domain_core.specs.Machine.{with_devices}
use Rattle.domain_core.specs.Peek.{Asks, Listens, quieted, after_peek, host_after_peek, word_bytes}
use Rattle.domain_core.specs.PrivateFarm.{State}
use Rattle.domain_core.proofs.PeekNodes.{end_of, listening, resting, with_end, own-end, quieted-end}
use Rattle.domain_core.proofs.PeekPlaces.{Peeking, standing}
use Rattle.domain_core.proofs.PeekRounds.{host_of, host_posting, reached}

-- a host that asks for the word at an address: the control byte of a peek is posted, and the address waits
abbrev pub asking : ℕ → HostState → HostState
asking address h = host_posting 1 (bytes_of_word address) h.received h.end.input.overruns h.end.output.acknowledged

-- a host that asks for the word at an address has the message's first byte posted and the others waiting
pub asks-is : (address : ℕ) (h : HostState) → Asks address h → h ≡ asking address h
asks-is address h given =
    let sending : List ℕ = 1 ∷ bytes_of_word address in
    let latch : Latch = record { byte = Some 1; acknowledge = false } in
    ap (λ (x : List ℕ). record h { sending = x }) given.sending
    ∙ ap (λ (x : Latch). record h { sending = sending; end = record h.end { latch = x } }) given.latch
    ∙ ap (λ (x : Option ℕ).
    record h { sending = sending; end = record h.end { latch = latch; input = record h.end.input { buffer = x } } })
    given.buffer
    ∙ ap (λ (x : Bool).
    host_of sending h.received (end_of (Some 1) false None h.end.input.overruns x h.end.output.acknowledged))
    given.awaits

end-rests : (e : LinkEnd) → e.latch ≡ fresh_end.latch → e.input.buffer ≡ None → e.output.awaits ≡ false
    → e ≡ listening e.input.overruns e.output.acknowledged
end-rests e latch buffer output =
    ap (λ (x : Latch). record e { latch = x }) latch
    ∙ ap (λ (x : Option ℕ). record e { latch = fresh_end.latch; input = record e.input { buffer = x } }) buffer
    ∙ ap (λ (x : Bool). end_of None false None e.input.overruns x e.output.acknowledged) output

-- how many bytes a link of a node has lost
abbrev pub lost_at : LinkNumber → Node → ℕ
lost_at link n = (at link n.links).end.input.overruns

-- whether it knows of an acknowledge that came
abbrev pub heard_at : LinkNumber → Node → Bool
heard_at link n = (at link n.links).end.output.acknowledged

-- a node that listens on a link is one with an end there at which nothing waits, and wants a control byte
pub listens-is : (link : LinkNumber) (n : Node) → Listens link n
    → n ≡ with_end link (listening (lost_at link n) (heard_at link n)) WantsControl n
listens-is link n given =
    sym (own-end link n)
    ∙ ap (λ (x : doing.NodeState). with_end link (at link n.links).end x n) given.state
    ∙ ap (λ (x : LinkEnd). with_end link x WantsControl n)
    (end-rests (at link n.links).end given.latch (given.buffers link) given.output)

-- the node once its link knows of none
quieted-is : (link : LinkNumber) (n : Node) → Listens link n
    → quieted link n ≡ with_end link (resting (lost_at link n)) WantsControl n
quieted-is link n given =
    ap (quieted link) (listens-is link n given) ∙ quieted-end link (lost_at link n) (heard_at link n) WantsControl n

-- the host and the node of a peek at its start
abbrev pub first_host : Peeking → HostState
first_host peek = host_at peek.start.machine.devices peek.route.host

-- the node that a peek reads, at the beginning
abbrev pub first_node : Peeking → Node
first_node peek = node_at peek.start.machine.devices peek.route.node

-- how many packets its link has lost by then
abbrev pub first_lost : Peeking → ℕ
first_lost peek = lost_at peek.route.link (first_node peek)

-- whether its link knows by then of an acknowledge that came
abbrev pub first_heard : Peeking → Bool
first_heard peek = heard_at peek.route.link (first_node peek)

start-stands : (peek : Peeking) → peek.start ≡ standing peek 0 (first_host peek) (first_node peek)
start-stands peek =
    let d : DeviceStates = peek.start.machine.devices in
    let none : peek.start.recorded ≡ peek.start.recorded + 0 = omega arith in
    let state : DeviceStates → ℕ → State =
    λ devices recorded. record { machine = with_devices devices peek.start.machine; recorded = recorded } in
    ap (λ (x : ℕ). state d x) none
    ∙ ap (λ (x : List Node). state (record d { nodes = x }) (peek.start.recorded + 0))
    (sym (set-get_or d.nodes peek.route.node (opened_node 0)))
    ∙ ap (λ (x : List HostState).
    state (record { nodes = slice_set d.nodes peek.route.node (first_node peek); hosts = x }) (peek.start.recorded + 0))
    (sym (set-get_or d.hosts peek.route.host opened_host))

-- a peek starts where no event has come: the host asks, and the node listens
pub begins : (peek : Peeking)
    → peek.start
    ≡ reached peek 0 (asking peek.address (first_host peek))
    (listening (first_lost peek) (first_heard peek)) WantsControl
    (first_node peek)
begins peek =
    start-stands peek
    ∙ ap (λ (x : HostState). standing peek 0 x (first_node peek)) (asks-is peek.address (first_host peek) peek.can.asks)
    ∙ ap (λ (x : Node). standing peek 0 (asking peek.address (first_host peek)) x)
    (listens-is peek.route.link (first_node peek) peek.can.listens)

-- the host that was given the word
abbrev pub told_word : Peeking → HostState
told_word peek = host_after_peek (word_bytes (first_node peek) peek.address) (first_host peek)

-- where it ends: the node is as it was, but that its link knows of no acknowledge
pub ends : (peek : Peeking) → reached peek 27 (told_word peek) (resting (first_lost peek))
    WantsControl (first_node peek)
    ≡ record { machine = after_peek peek.route peek.address peek.start.machine; recorded = peek.start.recorded + 27 }
ends peek = ap (λ (x : Node). standing peek 27 (told_word peek) x)
    (sym (quieted-is peek.route.link (first_node peek) peek.can.listens))

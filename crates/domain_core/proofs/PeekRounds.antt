-- One round of a peek: three events by which a byte goes one way and its acknowledge the other.
use Rattle.std.proofs.Common.{◌≡◌, ℕ, ◌+◌, ◌<◌, ◌≤◌, Bool, true, false, List, [], ◌∷◌, ◌++◌, Option, Some, None, refl}
use Rattle.std.proofs.Common.{◌∙◌, ap, arith}
use Rattle.os_link.specs.declared.end.LinkEnd.{LinkEnd}
use Rattle.os_link.specs.declared.latch.Packet.{Packet}
use Rattle.os_link.specs.declared.latch.Packet.TheVariants.{Byte, Ack}
use Rattle.os_link.specs.End.{arrived, without_next, next_of}
use Rattle.t414_step.specs.declared.stepping.Stepped.TheVariants.{Ran}
use Rattle.bootstrap.specs.Step.{node_step, has_halted}
use Rattle.bootstrap.specs.declared.node.Node.{Node}
use Rattle.bootstrap.specs.declared.state.NodeState as doing
use Rattle.domain_core.specs.declared.event.Event.TheVariants.{Step, Move}
use Rattle.domain_core.specs.Hosts.{HostState, delivered, packet_left, sending_on, is_full}
use Rattle.domain_core.specs.PrivateFarm.{State, Answer, Call, next}
use Rattle.domain_core.specs.Peek.{packet_passed, node_ran}
use Rattle.domain_core.proofs.PeekCalls.{Leads, leads-none, leads-first}
use Rattle.domain_core.proofs.PeekNodes.{end_of, listening, resting, posting, holding, acknowledged, with_end}
use Rattle.domain_core.proofs.PeekNodes.{end-there, got-end, sent-end}
use Rattle.domain_core.proofs.PeekPlaces.{Peeking, standing, asked, host-moves, link-moves, node-steps}

-- a host by its parts
abbrev pub host_of : List ℕ → List ℕ → LinkEnd → HostState
host_of sending received e = record { sending = sending; received = received; end = e }

-- a host whose front byte is posted, and one that awaits nothing
abbrev pub host_posting : ℕ → List ℕ → List ℕ → ℕ → Bool → HostState
host_posting byte rest received overruns heard =
    host_of (byte ∷ rest) received (end_of (Some byte) false None overruns true heard)

-- a host with nothing posted that awaits nothing
abbrev pub host_resting : List ℕ → List ℕ → ℕ → HostState
host_resting sending received overruns = host_of sending received (resting overruns)

-- the state that many events later, where the link of this node has this end and the node does this
abbrev pub reached : Peeking → ℕ → HostState → LinkEnd → doing.NodeState → Node → State
reached peek count h e state n = standing peek count h (with_end peek.route.link e state n)

-- the calls of a round, and their answers
abbrev pub calls_there : Peeking → List Call
calls_there peek =
    asked peek.by (Move peek.route.host_port) ∷ asked peek.by (Step peek.route.node)
    ∷ asked peek.by (Move peek.route.link_port) ∷ []

-- the calls of a round in which the node sends
abbrev pub calls_back : Peeking → List Call
calls_back peek =
    asked peek.by (Move peek.route.link_port) ∷ asked peek.by (Move peek.route.host_port)
    ∷ asked peek.by (Step peek.route.node) ∷ []

-- the answers to the calls of a round in which the host sends
abbrev pub answers_there : List Answer
answers_there = packet_passed ∷ node_ran ∷ packet_passed ∷ []

-- the answers to the calls of a round in which the node sends
abbrev pub answers_back : List Answer
answers_back = packet_passed ∷ packet_passed ∷ node_ran ∷ []

-- a Move of the host
host-sends : (peek : Peeking) (count : ℕ) (h : HostState) (e : LinkEnd) (state : doing.NodeState) (n : Node)
    (packet : Packet)
    → count < 27
    → next_of h.end.latch ≡ Some packet
    → next peek.part (reached peek count h e state n) (asked peek.by (Move peek.route.host_port))
    ≡ (reached peek (count + 1) (packet_left h) (arrived packet e) state n, packet_passed)
host-sends peek count h e state n packet lt waits =
    host-moves peek count h (with_end peek.route.link e state n) packet lt waits
    ∙ ap (λ (m : Node). (standing peek (count + 1) (packet_left h) m, packet_passed))
    (got-end peek.route.link e state n packet)

-- a Move of the link
link-sends : (peek : Peeking) (count : ℕ) (h : HostState) (e : LinkEnd) (state : doing.NodeState) (n : Node)
    (packet : Packet)
    → count < 27
    → next_of e.latch ≡ Some packet
    → next peek.part (reached peek count h e state n) (asked peek.by (Move peek.route.link_port))
    ≡ (reached peek (count + 1) (delivered packet h) (record e { latch = without_next e.latch }) state n, packet_passed)
link-sends peek count h e state n packet lt waits =
    link-moves peek count h (with_end peek.route.link e state n) packet lt
    (ap (λ (x : LinkEnd). next_of x.latch) (end-there peek.route.link e state n) ∙ waits)
    ∙ ap (λ (m : Node). (standing peek (count + 1) (delivered packet h) m, packet_passed))
    (sent-end peek.route.link e state n)

-- a byte of the message: the node takes it, and the host posts the next, if there is one
pub round-there : (peek : Peeking) (count byte : ℕ) (rest received : List ℕ) (overruns lost : ℕ) (heard : Bool)
    (latched : Option ℕ) (awaits known later : Bool) (before after : doing.NodeState) (n : Node)
    → count + 3 ≤ 27 → has_halted before ≡ false
    → node_step (with_end peek.route.link (holding byte lost known) before n)
    ≡ (with_end peek.route.link (end_of latched true None lost awaits later) after n, Ran)
    → Leads peek.part (reached peek count (host_posting byte rest received overruns heard)
    (listening lost known) before n)
    (calls_there peek) answers_there
    (reached peek (count + 1 + 1 + 1) (sending_on (host_resting rest received overruns))
    (end_of latched false None lost awaits later) after n)
round-there peek count byte rest received overruns lost heard latched awaits known later before after
    n room goes steps =
    let sent : HostState = host_of (byte ∷ rest) received (end_of None false None overruns true heard) in
    leads-first peek.part _ _ _ _ _ _ _
    (host-sends peek count (host_posting byte rest received overruns heard) (listening lost known) before n (Byte byte)
    (omega arith) refl)
    (leads-first peek.part _ _ _ _ _ _ _
    (node-steps peek (count + 1) sent (with_end peek.route.link (holding byte lost known) before n)
    (with_end peek.route.link (end_of latched true None lost awaits later) after n) (omega arith) steps goes)
    (leads-first peek.part _ _ _ _ _ _ _
    (link-sends peek (count + 1 + 1) sent (end_of latched true None lost awaits later) after n Ack (omega arith) refl)
    (leads-none peek.part _)))

-- a byte of the word: the host takes it, and the node hears the acknowledge
pub round-back : (peek : Peeking) (count byte : ℕ) (received : List ℕ) (overruns lost : ℕ) (e : LinkEnd)
    (before after : doing.NodeState) (n : Node)
    → count + 3 ≤ 27 → has_halted before ≡ false → is_full received ≡ false
    → node_step (with_end peek.route.link (acknowledged lost) before n) ≡ (with_end peek.route.link e after n, Ran)
    → Leads peek.part (reached peek count (host_resting [] received overruns) (posting byte lost) before
    n) (calls_back peek)
    answers_back
    (reached peek (count + 1 + 1 + 1) (host_resting [] (received ++ byte ∷ []) overruns) e after n)
round-back peek count byte received overruns lost e before after n room goes space steps =
    let got : HostState = host_of [] (received ++ byte ∷ []) (end_of None true None overruns false false) in
    let gets : delivered (Byte byte) (host_resting [] received overruns) ≡ got = rw space refl in
    let sent : LinkEnd = end_of None false None lost true false in
    leads-first peek.part _ _ _ _ _ _ _
    (link-sends peek count (host_resting [] received overruns) (posting byte lost) before n (Byte byte)
    (omega arith) refl
    ∙ ap (λ (h : HostState). (reached peek (count + 1) h sent before n, packet_passed)) gets)
    (leads-first peek.part _ _ _ _ _ _ _
    (host-sends peek (count + 1) got sent before n Ack (omega arith) refl)
    (leads-first peek.part _ _ _ _ _ _ _
    (node-steps peek (count + 1 + 1) (host_resting [] (received ++ byte ∷ []) overruns)
    (with_end peek.route.link (acknowledged lost) before n) (with_end peek.route.link e after n)
    (omega arith) steps goes)
    (leads-none peek.part _)))

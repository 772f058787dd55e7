-- A node with one link end and its state in place: what packets and Steps make of it during a peek.
use Rattle.std.proofs.Common.{◌≡◌, ℕ, ◌-◌, ◌/◌, ◌%◌, ◌^◌, ◌==◌, Bool, true, false, Option, Some, None, refl}
use Rattle.std.specs.Prelude.{nat_lt}
use Rattle.os_link.specs.End.{arrived, without_next}
use Rattle.os_link.specs.declared.end.LinkEnd.{LinkEnd}
use Rattle.os_link.specs.declared.latch.Packet.{Packet}
use Rattle.link_channels.specs.Links.{at, with_link}
use Rattle.link_channels.specs.declared.number.LinkNumber.{LinkNumber}
use Rattle.link_channels.specs.declared.number.LinkNumber.TheVariants.{Zero, One, Two, Three}
use Rattle.node_memory.specs.Bytes.{word_at}
use Rattle.t414_step.specs.declared.stepping.Stepped.TheVariants.{Ran}
use Rattle.bootstrap.specs.Boot.{shifted_down}
use Rattle.bootstrap.specs.Step.{node_step, task_of, or_zero}
use Rattle.bootstrap.specs.declared.node.Node.{Node}
use Rattle.bootstrap.specs.declared.state.NodeState.{NodeState}
use Rattle.bootstrap.specs.declared.state.NodeState.TheVariants.{WantsControl, Takes, Answers}
use Rattle.bootstrap.specs.declared.state.Task.TheVariants.{Peek}
use Rattle.domain_core.specs.Peek.{quieted}
use Rattle.domain_core.proofs.PeekPlaces.{packet_sent, packet_got}

-- ---- link ends, with that many overruns

-- a link end by its parts
abbrev pub end_of : Option ℕ → Bool → Option ℕ → ℕ → Bool → Bool → LinkEnd
end_of byte acknowledge buffer overruns awaits acknowledged = record {
  latch = record { byte = byte; acknowledge = acknowledge };
  input = record { buffer = buffer; overruns = overruns };
  output = record { awaits = awaits; acknowledged = acknowledged };
}

-- nothing waits, is buffered or is awaited, whether or not an acknowledge has come before
abbrev pub listening : ℕ → Bool → LinkEnd
listening overruns heard = end_of None false None overruns false heard

-- nothing waits, is buffered or is awaited, and none has come
abbrev pub resting : ℕ → LinkEnd
resting overruns = end_of None false None overruns false false

-- a link end that posts this byte, and awaits its acknowledge
abbrev pub posting : ℕ → ℕ → LinkEnd
posting byte overruns = end_of (Some byte) false None overruns true false

-- a link end with this byte in its buffer
abbrev pub holding : ℕ → ℕ → Bool → LinkEnd
holding byte overruns heard = end_of None false (Some byte) overruns false heard

-- a link end that knows of an acknowledge
abbrev pub acknowledged : ℕ → LinkEnd
acknowledged overruns = end_of None false None overruns false true

-- a link end in whose latch an acknowledge waits besides
abbrev pub acknowledging : LinkEnd → LinkEnd
acknowledging e = record e { latch = record e.latch { acknowledge = true } }

-- ---- the node with this end at its link, in this state

-- a node with this end at a link, in this state
abbrev pub with_end : LinkNumber → LinkEnd → NodeState → Node → Node
with_end link e state n =
    record { memory = n.memory; links = with_link link (record (at link n.links) { end = e }) n.links; state = state }

-- a node with its own end in place is itself
pub own-end : (link : LinkNumber) (n : Node) → with_end link (at link n.links).end n.state n ≡ n
own-end Zero n = refl
own-end One n = refl
own-end Two n = refl
own-end Three n = refl

-- the end that was put in place is there
pub end-there : (link : LinkNumber) (e : LinkEnd) (state : NodeState) (n : Node)
    → (at link (with_end link e state n).links).end ≡ e
end-there Zero e state n = refl
end-there One e state n = refl
end-there Two e state n = refl
end-there Three e state n = refl

-- a packet that comes to the link comes to the end in place
pub got-end : (link : LinkNumber) (e : LinkEnd) (state : NodeState) (n : Node) (packet : Packet)
    → packet_got link packet (with_end link e state n) ≡ with_end link (arrived packet e) state n
got-end Zero e state n packet = refl
got-end One e state n packet = refl
got-end Two e state n packet = refl
got-end Three e state n packet = refl

-- a packet that is sent from the link leaves the end in place without it
pub sent-end : (link : LinkNumber) (e : LinkEnd) (state : NodeState) (n : Node)
    → packet_sent link (with_end link e state n) ≡ with_end link (record e { latch = without_next e.latch }) state n
sent-end Zero e state n = refl
sent-end One e state n = refl
sent-end Two e state n = refl
sent-end Three e state n = refl

-- ---- its Steps

-- a Step of a node that wants a control byte and holds one begins the byte's task, and acknowledges the byte
pub control-step : (link : LinkNumber) (n : Node) (byte overruns : ℕ) (heard : Bool)
    → ((other : LinkNumber) → (at other n.links).end.input.buffer ≡ None)
    → node_step (with_end link (holding byte overruns heard) WantsControl n)
    ≡ (with_end link (acknowledging (listening overruns heard)) (Takes link (task_of byte)) n, Ran)
unfolding node_step
control-step Zero n byte overruns heard none = refl
control-step One n byte overruns heard none = rw (none Zero) refl
control-step Two n byte overruns heard none = rw (none Zero, none One) refl
control-step Three n byte overruns heard none = rw (none Zero, none One, none Two) refl

-- a byte of the address is taken, but for the last
pub address-step : (link : LinkNumber) (n : Node) (byte overruns left address : ℕ) (heard : Bool) → nat_lt 1 left ≡ true
    → node_step (with_end link (holding byte overruns heard) (Takes link (Peek left address)) n)
    ≡ (
      with_end link (acknowledging (listening overruns heard))
          (Takes link (Peek (left - 1) (shifted_down byte address))) n,
      Ran,
    )
unfolding node_step
address-step Zero n byte overruns left address heard more = rw more refl
address-step One n byte overruns left address heard more = rw more refl
address-step Two n byte overruns left address heard more = rw more refl
address-step Three n byte overruns left address heard more = rw more refl

-- the last byte of the address is taken, and the first of the word is posted
pub last-address-step : (link : LinkNumber) (n : Node) (byte overruns address word : ℕ) (heard : Bool)
    → or_zero (word_at n.memory (shifted_down byte address)) ≡ word
    → node_step (with_end link (holding byte overruns heard) (Takes link (Peek 1 address)) n)
    ≡ (with_end link (acknowledging (posting (word % 2 ^ 8) overruns)) (Answers link 3 (word / 2 ^ 8)) n, Ran)
unfolding node_step
last-address-step Zero n byte overruns address word heard same = rw same refl
last-address-step One n byte overruns address word heard same = rw same refl
last-address-step Two n byte overruns address word heard same = rw same refl
last-address-step Three n byte overruns address word heard same = rw same refl

-- the acknowledge of a byte of the word is heard, and the next byte is posted
pub answer-step : (link : LinkNumber) (n : Node) (overruns left word : ℕ) → (left == 0) ≡ false
    → node_step (with_end link (acknowledged overruns) (Answers link left word) n)
    ≡ (with_end link (posting (word % 2 ^ 8) overruns) (Answers link (left - 1) (word / 2 ^ 8)) n, Ran)
unfolding node_step
answer-step Zero n overruns left word more = rw more refl
answer-step One n overruns left word more = rw more refl
answer-step Two n overruns left word more = rw more refl
answer-step Three n overruns left word more = rw more refl

-- the acknowledge of its last byte is heard
pub last-answer-step : (link : LinkNumber) (n : Node) (overruns word : ℕ)
    → node_step (with_end link (acknowledged overruns) (Answers link 0 word) n)
    ≡ (with_end link (resting overruns) WantsControl n, Ran)
unfolding node_step
last-answer-step Zero n overruns word = refl
last-answer-step One n overruns word = refl
last-answer-step Two n overruns word = refl
last-answer-step Three n overruns word = refl

-- ---- the node once its link knows of no acknowledge

-- quieting a link that listens leaves its end at rest
pub quieted-end : (link : LinkNumber) (overruns : ℕ) (heard : Bool) (state : NodeState) (n : Node)
    → quieted link (with_end link (listening overruns heard) state n) ≡ with_end link (resting overruns) state n
quieted-end Zero overruns heard state n = refl
quieted-end One overruns heard state n = refl
quieted-end Two overruns heard state n = refl
quieted-end Three overruns heard state n = refl

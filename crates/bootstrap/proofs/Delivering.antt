-- Bytes that come to a link one by one, for the laws of messages: a link that holds no byte and has no acknowledge to
-- send is left so by each byte that a Step takes.
use Rattle.std.proofs.Common.{◌≡◌, ℕ, ◌-◌, ◌≤◌, Bool, true, false, List, [], ◌∷◌, length}
use Rattle.std.proofs.Common.{Option, Some, None, refl, ◌∙◌, ap, sym, arith}
use Rattle.std.specs.Prelude.{nat_lt}
use Rattle.os_link.specs.declared.latch.Packet.{Packet}
use Rattle.os_link.specs.declared.latch.Packet.TheVariants.{Ack}
use Rattle.node_memory.specs.Bytes.{with_byte, with_word}
use Rattle.node_memory.specs.Words.{◌⊕◌}
use Rattle.link_channels.specs.Links.{at, with_link}
use Rattle.link_channels.specs.declared.link.FourLinks.{FourLinks}
use Rattle.link_channels.specs.declared.number.LinkNumber.{LinkNumber}
use Rattle.link_channels.specs.declared.number.LinkNumber.TheVariants.{Zero, One, Two, Three}
use Rattle.t414_step.specs.declared.stepping.Stepped.{Stepped}
use Rattle.t414_step.specs.declared.stepping.Stepped.TheVariants.{Ran}
use Rattle.bootstrap.specs.Boot.{or_kept, freed, begun, shifted_down}
use Rattle.bootstrap.specs.Delivered.{byte_delivered, delivery_answer, bytes_delivered, delivery_answers}
use Rattle.bootstrap.specs.Delivered.{all_acknowledged, AwaitsMessage}
use Rattle.bootstrap.specs.LinkNumbers.{link_number}
use Rattle.bootstrap.specs.Step.{node_step, task_of}
use Rattle.bootstrap.specs.declared.node.Node.{Node}
use Rattle.bootstrap.specs.declared.state.NodeState.{NodeState}
use Rattle.bootstrap.specs.declared.state.NodeState.TheVariants.{WantsControl, Takes, Runs}
use Rattle.bootstrap.specs.declared.state.Task.TheVariants.{Poke, Load}

-- ---- one byte, and one byte after another

-- a byte leads from x to y, by a Step that ran, and is acknowledged
pub record Delivers (link : LinkNumber) (byte : ℕ) (x y : Node) : Type 0 where
  pub node : byte_delivered link byte x ≡ y
  pub answer : delivery_answer link byte x ≡ (Ran, Some Ack)

-- so do several
pub record DeliversAll (link : LinkNumber) (bytes : List ℕ) (x y : Node) : Type 0 where
  pub node : bytes_delivered link bytes x ≡ y
  pub answers : delivery_answers link bytes x ≡ all_acknowledged (length bytes)

-- no bytes leave a node as it is
pub none-delivered : (link : LinkNumber) (x : Node) → DeliversAll link [] x x
none-delivered link x = record { node = refl; answers = refl }

-- one byte, and then others
pub one-delivered : (link : LinkNumber) (byte : ℕ) (bytes : List ℕ) (x y z : Node) → Delivers link byte x y
    → DeliversAll link bytes y z
    → DeliversAll link (byte ∷ bytes) x z
one-delivered link byte bytes x y z first rest = record {
  node = ap (bytes_delivered link bytes) first.node ∙ rest.node;
  answers =
      ap (λ (a : Stepped × Option Packet). a ∷ delivery_answers link bytes (byte_delivered link byte x)) first.answer
      ∙ ap (λ (n : Node). (Ran, Some Ack) ∷ delivery_answers link bytes n) first.node
      ∙ ap (λ (more : List (Stepped × Option Packet)). (Ran, Some Ack) ∷ more) rest.answers;
}

-- ---- a link that holds no byte and has no acknowledge to send

-- four links, and one has this in its buffer, and this acknowledge to send
abbrev pub with_input : LinkNumber → Option ℕ → Bool → FourLinks → FourLinks
with_input link buffer acknowledge ls =
    let l = at link ls in
    with_link link
    (record l {
      end =
          record l.end {
            latch = record l.end.latch { acknowledge = acknowledge };
            input = record l.end.input { buffer = buffer };
          };
    })
    ls

-- a node with such links, and one has neither
abbrev pub clear_node : LinkNumber → List ℕ → FourLinks → NodeState → Node
clear_node link m ls state = record { memory = m; links = with_input link None false ls; state = state }

own-input : (link : LinkNumber) (ls : FourLinks)
    → with_input link (at link ls).end.input.buffer (at link ls).end.latch.acknowledge ls ≡ ls
own-input Zero ls = refl
own-input One ls = refl
own-input Two ls = refl
own-input Three ls = refl

-- a link that has neither is so
pub clear-input : (link : LinkNumber) (ls : FourLinks) → (at link ls).end.input.buffer ≡ None
    → (at link ls).end.latch.acknowledge ≡ false
    → with_input link None false ls ≡ ls
clear-input link ls none quiet =
    ap (λ (b : Option ℕ). with_input link b false ls) (sym none)
    ∙ ap (λ (a : Bool). with_input link (at link ls).end.input.buffer a ls) (sym quiet)
    ∙ own-input link ls

-- the links of a node that awaits a message
pub clear-links : (link : LinkNumber) (n : Node) → AwaitsMessage link n → with_input link None false n.links ≡ n.links
clear-links link n awaits =
    clear-input link n.links (awaits.buffers link (omega arith)) awaits.acknowledge

-- such a node, with this memory
pub clear-memory : (link : LinkNumber) (n : Node) (m : List ℕ) → AwaitsMessage link n
    → clear_node link m n.links WantsControl ≡ record n { memory = m }
clear-memory link n m awaits =
    ap (λ (ls : FourLinks). let k : Node = record { memory = m; links = ls; state = WantsControl } in k)
    (clear-links link n awaits)
    ∙ ap (λ (state : NodeState). let k : Node = record { memory = m; links = n.links; state = state } in k)
    (sym awaits.state)

-- ---- what each byte does

-- a control byte begins its task
pub control-delivered : (link : LinkNumber) (byte : ℕ) (m : List ℕ) (ls : FourLinks)
    → ((other : LinkNumber) → link_number other ≤ link_number link → (at other ls).end.input.buffer ≡ None)
    → Delivers link byte (clear_node link m ls WantsControl) (clear_node link m ls (Takes link (task_of byte)))
unfolding node_step
control-delivered Zero byte m ls none = record { node = refl; answer = refl }
control-delivered One byte m ls none =
    let zeroth = none Zero (omega arith) in
    record { node = rw zeroth refl; answer = rw zeroth refl }
control-delivered Two byte m ls none =
    let zeroth = none Zero (omega arith) in
    let first = none One (omega arith) in
    record { node = rw (zeroth, first) refl; answer = rw (zeroth, first) refl }
control-delivered Three byte m ls none =
    let zeroth = none Zero (omega arith) in
    let first = none One (omega arith) in
    let second = none Two (omega arith) in
    record { node = rw (zeroth, first, second) refl; answer = rw (zeroth, first, second) refl }

-- a byte of a poke's address is put in above those before
pub address-delivered : (link : LinkNumber) (byte : ℕ) (m : List ℕ) (ls : FourLinks) (left address word : ℕ)
    → nat_lt 4 left ≡ true
    → Delivers link byte (clear_node link m ls (Takes link (Poke left address word)))
    (clear_node link m ls (Takes link (Poke (left - 1) (shifted_down byte address) word)))
unfolding node_step
address-delivered Zero byte m ls left address word more = record { node = rw more refl; answer = rw more refl }
address-delivered One byte m ls left address word more = record { node = rw more refl; answer = rw more refl }
address-delivered Two byte m ls left address word more = record { node = rw more refl; answer = rw more refl }
address-delivered Three byte m ls left address word more = record { node = rw more refl; answer = rw more refl }

-- and so is one of its word, but for the last
pub word-delivered : (link : LinkNumber) (byte : ℕ) (m : List ℕ) (ls : FourLinks) (left address word : ℕ)
    → nat_lt 4 left ≡ false → nat_lt 1 left ≡ true
    → Delivers link byte (clear_node link m ls (Takes link (Poke left address word)))
    (clear_node link m ls (Takes link (Poke (left - 1) address (shifted_down byte word))))
unfolding node_step
word-delivered Zero byte m ls left address word few more =
    record { node = rw (few, more) refl; answer = rw (few, more) refl }
word-delivered One byte m ls left address word few more =
    record { node = rw (few, more) refl; answer = rw (few, more) refl }
word-delivered Two byte m ls left address word few more =
    record { node = rw (few, more) refl; answer = rw (few, more) refl }
word-delivered Three byte m ls left address word few more =
    record { node = rw (few, more) refl; answer = rw (few, more) refl }

-- with the last the word is stored
pub last-delivered : (link : LinkNumber) (byte : ℕ) (m : List ℕ) (ls : FourLinks) (address word : ℕ)
    → Delivers link byte (clear_node link m ls (Takes link (Poke 1 address word)))
    (clear_node link (or_kept (with_word m address (shifted_down byte word)) m) ls WantsControl)
unfolding node_step
last-delivered Zero byte m ls address word = record { node = refl; answer = refl }
last-delivered One byte m ls address word = record { node = refl; answer = refl }
last-delivered Two byte m ls address word = record { node = refl; answer = refl }
last-delivered Three byte m ls address word = record { node = refl; answer = refl }

-- a byte of code is stored, and the next one lies above it
pub code-delivered : (link : LinkNumber) (byte : ℕ) (m : List ℕ) (ls : FourLinks) (left address : ℕ)
    → nat_lt 1 left ≡ true
    → Delivers link byte (clear_node link m ls (Takes link (Load left address)))
    (clear_node link (or_kept (with_byte m address byte) m) ls (Takes link (Load (left - 1) (address ⊕ 1))))
unfolding node_step
code-delivered Zero byte m ls left address more = record { node = rw more refl; answer = rw more refl }
code-delivered One byte m ls left address more = record { node = rw more refl; answer = rw more refl }
code-delivered Two byte m ls left address more = record { node = rw more refl; answer = rw more refl }
code-delivered Three byte m ls left address more = record { node = rw more refl; answer = rw more refl }

-- with the last the code runs
pub whole-delivered : (link : LinkNumber) (byte : ℕ) (m : List ℕ) (ls : FourLinks) (left address : ℕ)
    → nat_lt 1 left ≡ false
    → Delivers link byte (clear_node link m ls (Takes link (Load left address)))
    (clear_node link (freed 9 (or_kept (with_byte m address byte) m)) ls (Runs (begun link (address ⊕ 1))))
unfolding node_step
whole-delivered Zero byte m ls left address last = record { node = rw last refl; answer = rw last refl }
whole-delivered One byte m ls left address last = record { node = rw last refl; answer = rw last refl }
whole-delivered Two byte m ls left address last = record { node = rw last refl; answer = rw last refl }
whole-delivered Three byte m ls left address last = record { node = rw last refl; answer = rw last refl }

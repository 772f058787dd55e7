-- What a whole message makes of a node that wants a control byte, seen from outside: which bytes come to a link, and
-- what the node is then. Transputer Reference Manual, links, and bootstrapping; T414 data sheet, memory map.
use Rattle.std.specs.Prelude.{ℕ, ◌+◌, ◌*◌, ◌/◌, ◌^◌, ◌<◌, ◌≤◌, ◌≡◌, ◌⊎◌, true, false, List, [], ◌∷◌, length, replicate, slice_index, Option, Some, None, Ok}
use Rattle.os_link.specs.End.{next_of}
use Rattle.os_link.specs.declared.latch.Packet.{Packet}
use Rattle.os_link.specs.declared.latch.Packet.TheVariants.{Byte, Ack}
use Rattle.node_memory.specs.Bytes.{is_inside, byte_at, holds_word, word_at, with_word}
use Rattle.node_memory.specs.Marks.{not_process}
use Rattle.link_channels.specs.Links.{at, input_channel, packet_arrived, packet_taken}
use Rattle.link_channels.specs.declared.number.LinkNumber.{LinkNumber}
use Rattle.t414_step.specs.declared.cpu.Cpu.{Cpu}
use Rattle.t414_step.specs.declared.stepping.Stepped.{Stepped}
use Rattle.t414_step.specs.declared.stepping.Stepped.TheVariants.{Ran}
use Rattle.bootstrap.specs.Boot.{or_kept}
use Rattle.bootstrap.specs.Step.{node_step}
use Rattle.bootstrap.specs.LinkNumbers.{link_number}
use Rattle.bootstrap.specs.Messages.{poke_bytes, boot_bytes}
use Rattle.bootstrap.specs.declared.node.Node.{Node}
use Rattle.bootstrap.specs.declared.state.NodeState.TheVariants.{WantsControl, Runs}

-- ---- bytes that come one by one

-- a byte has come to a link
abbrev pub byte_arrived : LinkNumber → ℕ → Node → Node
byte_arrived link byte n = record n { links = packet_arrived link (Byte byte) n.links }

-- the packet that waits at a link was taken
abbrev pub with_packet_taken : LinkNumber → Node → Node
with_packet_taken link n = record n { links = packet_taken link n.links }

-- a byte has come, a Step was done, and the packet that waits at the link then was taken. This is what happens on a
-- farm if that packet is the byte's acknowledge, since the other end sends the next byte only once it has it; what
-- comes to other links, and what they send, has no part in it
abbrev pub byte_delivered : LinkNumber → ℕ → Node → Node
byte_delivered link byte n = with_packet_taken link (node_step (byte_arrived link byte n)).0

-- what the Step answers, and the packet that is taken
abbrev pub delivery_answer : LinkNumber → ℕ → Node → Stepped × Option Packet
delivery_answer link byte n =
    let stepped = node_step (byte_arrived link byte n) in (stepped.1, next_of (at link stepped.0.links).end.latch)

-- one byte after another
abbrev pub bytes_delivered : LinkNumber → List ℕ → Node → Node
bytes_delivered link [] n = n
bytes_delivered link (byte ∷ bytes) n = bytes_delivered link bytes (byte_delivered link byte n)

-- what is answered, and taken, at each
abbrev pub delivery_answers : LinkNumber → List ℕ → Node → List (Stepped × Option Packet)
delivery_answers link [] n = []
delivery_answers link (byte ∷ bytes) n =
    delivery_answer link byte n ∷ delivery_answers link bytes (byte_delivered link byte n)

-- the answers to this number of bytes if each was taken by a Step that ran, and acknowledged
abbrev pub all_acknowledged : ℕ → List (Stepped × Option Packet)
all_acknowledged count = replicate count (Ran, Some Ack)

-- a control byte is wanted, no link of this number or a lower one holds a byte, and the acknowledges of all bytes
-- before were taken
pub record AwaitsMessage (link : LinkNumber) (n : Node) : Type 0 where
  pub state : n.state ≡ WantsControl
  pub buffers : (other : LinkNumber) → link_number other ≤ link_number link
      → (at other n.links).end.input.buffer ≡ None
  pub acknowledge : (at link n.links).end.latch.acknowledge ≡ false

-- ---- a poke

-- the word was stored at the address, or memory is as before if the address lies outside; nothing else of the node has
-- changed, so a control byte is wanted again
pub record Pokes (link : LinkNumber) (address word : ℕ) (n : Node) : Type 0 where
  pub node : bytes_delivered link (poke_bytes address word) n
      ≡ record n { memory = or_kept (with_word n.memory address word) n.memory }
  pub answers : delivery_answers link (poke_bytes address word) n ≡ all_acknowledged 9

-- a poke stores the word
abbrev pub PokeStoresTheWord : Type 0
PokeStoresTheWord =
    (link : LinkNumber) (address word : ℕ) (n : Node) → address < 2 ^ 32 → word < 2 ^ 32
    → AwaitsMessage link n → Pokes link address word n

-- ---- code

-- the registers of a node that begins to run this number of bytes of code, which came by a link: Iptr is MemStart, W
-- the first word boundary at or above the code's end, C the address of that link's input channel. That the others are
-- 0, the queue empty and the flags clear is our choice
abbrev pub boot_registers : LinkNumber → ℕ → Cpu
boot_registers link count = record {
  instruction = 0x80000048;
  workspace = 0x80000048 + 4 * ((count + 3) / 4);
  a = 0;
  b = 0;
  c = input_channel link;
  operand = 0;
  queue = record { front = not_process; back = not_process };
  bytes = 0;
  error = false;
  halt_on_error = false;
  running = true;
}

-- memory after a boot, of that before: byte i of the code lies at MemStart + i, the nine channel words hold no process,
-- all between and above is as before, and what would lie outside is dropped
pub record HoldsCode (code before after : List ℕ) : Type 0 where
  pub size : length after ≡ length before
  pub loaded : (i : ℕ) → i < length code → is_inside before (0x80000048 + i) ≡ true
      → byte_at after (0x80000048 + i) ≡ Ok (slice_index code i)
  pub channels : (k : ℕ) → k < 9 → holds_word before (0x80000000 + 4 * k) ≡ true
      → word_at after (0x80000000 + 4 * k) ≡ Ok not_process
  pub others : (a : ℕ) → 0x80000024 ≤ a → (a < 0x80000048) ⊎ (0x80000048 + length code ≤ a)
      → byte_at after a ≡ byte_at before a

-- the code was loaded and runs; no link has changed
pub record Boots (link : LinkNumber) (code : List ℕ) (n : Node) : Type 0 where
  pub memory : HoldsCode code n.memory (bytes_delivered link (boot_bytes code) n).memory
  pub links : (bytes_delivered link (boot_bytes code) n).links ≡ n.links
  pub state : (bytes_delivered link (boot_bytes code) n).state ≡ Runs (boot_registers link (length code))
  pub answers : delivery_answers link (boot_bytes code) n ≡ all_acknowledged (length (boot_bytes code))

-- a boot loads the code and runs it
abbrev pub BootLoadsTheCode : Type 0
BootLoadsTheCode =
    (link : LinkNumber) (code : List ℕ) (n : Node) → 2 ≤ length code → length code ≤ 255
    → AwaitsMessage link n → Boots link code n

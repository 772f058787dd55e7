-- What is kept of memory: its bytes up to a word. All bytes after them are 0.
use Rattle.std.specs.Prelude.{◌≡◌, ℕ, ◌-◌, ◌%◌, ◌≤◌, List, ◌++◌, length, replicate, Result, Ok, Err}
use Rattle.node_memory.specs.Bytes.{IsMemorySize}
use Rattle.node_memory.specs.declared.fault.Fault.{Fault}
use Rattle.node_memory.specs.declared.fault.Fault.TheVariants.{OutsideMemory}
use Rattle.node_memory.specs.declared.memory.Fetched.{Fetched}
use Rattle.node_memory.specs.declared.memory.Fetched.TheVariants as fetched

-- memory of this size in bytes, if these bytes of it are kept
abbrev pub memory_of : List ℕ → ℕ → List ℕ
memory_of kept size = kept ++ replicate (size - length kept) 0

-- the byte that is fetched: one after those that are kept is 0
abbrev pub fetched_byte : Fetched → Result ℕ Fault
fetched_byte (fetched.Kept byte) = Ok byte
fetched_byte fetched.Behind = Ok 0
fetched_byte fetched.Outside = Err OutsideMemory

-- bytes that may be kept of memory of this size, in a vector with this room, both in bytes
pub record AreKept (kept : List ℕ) (size room : ℕ) : Type 0 where
  pub bounds : IsMemorySize size
  pub words : length kept % 4 ≡ 0
  pub within : length kept ≤ size
  pub wide : size ≤ room

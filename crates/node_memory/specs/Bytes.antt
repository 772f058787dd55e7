-- Memory as the list of its bytes. The first one lies at address 80000000 (MinInt).
-- IMS T414 data sheet, memory map; Transputer instruction set handbook, load and store.
-- A word is four bytes, least significant first, at its address with the low two bits cleared.
use Rattle.std.specs.Prelude.{◌≡◌, ℕ, zero, suc, ◌+◌, ◌-◌, ◌*◌, ◌/◌, ◌%◌, ◌^◌, ◌≤◌, Bool, ◌&&◌, List, length, Result, Ok, Err, nat_le, nat_lt, if◌then◌else◌, slice_index, slice_set}
use Rattle.node_memory.specs.declared.fault.Fault.{Fault}
use Rattle.node_memory.specs.declared.fault.Fault.TheVariants.{OutsideMemory}

-- a size that memory may have; the bounds are our own
pub record IsMemorySize (size : ℕ) : Type 0 where
  pub words : size % 4 ≡ 0
  pub least : 2048 ≤ size
  pub most : size ≤ 65536

-- the address of the first byte: MinInt
abbrev pub first_address : ℕ
first_address = 0x80000000

-- an address of a byte of memory
abbrev pub is_inside : List ℕ → ℕ → Bool
is_inside m a = nat_le first_address a && nat_lt (a - first_address) (length m)

-- the byte at an address
unfoldable pub byte_at : List ℕ → ℕ → Result ℕ Fault
byte_at m a = if is_inside m a then Ok (slice_index m (a - first_address)) else Err OutsideMemory

-- memory after a byte was written
unfoldable pub with_byte : List ℕ → ℕ → ℕ → Result (List ℕ) Fault
with_byte m a b = if is_inside m a then Ok (slice_set m (a - first_address) b) else Err OutsideMemory

-- where the word begins that an address lies in
abbrev pub word_offset : ℕ → ℕ
word_offset a = a - a % 4 - first_address

-- an address of a word of memory
abbrev pub holds_word : List ℕ → ℕ → Bool
holds_word m a = nat_le first_address a && nat_lt (word_offset a + 3) (length m)

-- the word whose four bytes begin there, least significant first
abbrev pub word_from : List ℕ → ℕ → ℕ
word_from m i =
    slice_index m i + 2 ^ 8 * slice_index m (i + 1) + 2 ^ 16 * slice_index m (i + 2) + 2 ^ 24 * slice_index m (i + 3)

-- memory with the four bytes of a word there
abbrev pub with_word_from : List ℕ → ℕ → ℕ → List ℕ
with_word_from m i w =
    slice_set
    (slice_set (slice_set (slice_set m i (w % 2 ^ 8)) (i + 1) (w / 2 ^ 8 % 2 ^ 8)) (i + 2) (w / 2 ^ 16 % 2 ^ 8))
    (i + 3) (w / 2 ^ 24 % 2 ^ 8)

-- the word at an address
unfoldable pub word_at : List ℕ → ℕ → Result ℕ Fault
word_at m a = if holds_word m a then Ok (word_from m (word_offset a)) else Err OutsideMemory

-- memory after a word was written
unfoldable pub with_word : List ℕ → ℕ → ℕ → Result (List ℕ) Fault
with_word m a w = if holds_word m a then Ok (with_word_from m (word_offset a) w) else Err OutsideMemory

-- memory and the outcome of a write, in one
abbrev pub stored : Result (Unit {0}) Fault → List ℕ → Result (List ℕ) Fault
stored (Ok _) m = Ok m
stored (Err fault) m = Err fault

-- goes on with what was read or written, unless it is a fault
abbrev pub result_and_then : {A B : Type 0} → Result A Fault → (A → Result B Fault) → Result B Fault
result_and_then (Ok a) next = next a
result_and_then (Err fault) next = Err fault

-- goes on with the memory that a write leaves; a fault leaves the memory before it
abbrev pub after_write : Result (List ℕ) Fault → List ℕ → (List ℕ → Result (Unit {0}) Fault × List ℕ)
    → Result (Unit {0}) Fault × List ℕ
after_write (Ok n) m next = next n
after_write (Err fault) m next = (Err fault, m)

-- bytes copied upwards one by one, up to the first fault: what came of it, and memory then;
-- if the two blocks overlap, a byte that was written is read again (our choice)
abbrev pub copied : ℕ → List ℕ → ℕ → ℕ → Result (Unit {0}) Fault × List ℕ
copied zero m from to = (Ok tt, m)
copied (suc count) m from to =
    after_write (result_and_then (byte_at m from) (with_byte m to)) m (λ n. copied count n (from + 1) (to + 1))

-- bytes of a list copied so from one place to another
abbrev pub copied_within : ℕ → List ℕ → ℕ → ℕ → List ℕ
copied_within zero bytes from to = bytes
copied_within (suc count) bytes from to =
    copied_within count (slice_set bytes to (slice_index bytes from)) (from + 1) (to + 1)

-- One byte of a copy, and the addresses inside memory.
use Rattle.std.proofs.Common.{◌≡◌, ℕ, zero, suc, ◌+◌, ◌<◌, ◌≤◌, List, length, slice_index, slice_set, Ok, refl, sym}
use Rattle.std.proofs.Common.{◌∙◌, arith, length-set}
use Rattle.std.proofs.lemmas.Bool.Decides.{nat_tests}
use Rattle.node_memory.specs.Bytes.{with_byte, byte_at, copied, copied_within, first_address}
use Rattle.node_memory.specs.Kept.{memory_of}
use Rattle.node_memory.proofs.Kept.{kept_index, kept_set, length_memory}

-- one that was made
pub copied-more : (k j : ℕ) (m n : List ℕ) (from to from' to' b : ℕ)
    → k ≡ suc j → from' ≡ from + 1 → to' ≡ to + 1 → byte_at m from ≡ Ok b → with_byte m to b ≡ Ok n
    → copied j n from' to' ≡ copied k m from to
copied-more k j m n from to from' to' b same equal agrees read write = rw (same, equal, agrees, read, write) refl

-- what can be read lies inside
pub inside-byte_at : (m : List ℕ) (a b : ℕ) → byte_at m a ≡ Ok b → a < 0x80000000 + length m
unfolding byte_at
inside-byte_at m a b same = grind (arith, nat_tests)

-- and what can be written
pub inside-with_byte : (m n : List ℕ) (a b : ℕ) → with_byte m a b ≡ Ok n → a < 0x80000000 + length m
unfolding with_byte
inside-with_byte m n a b same = grind (arith, nat_tests)

-- a byte that is kept is read from what is kept
read_kept : (kept : List ℕ) (size i : ℕ) → length kept ≤ size → i < length kept
    → byte_at (memory_of kept size) (first_address + i) ≡ Ok (slice_index kept i)
unfolding byte_at
read_kept kept size i within below =
    let whole = length_memory kept size within in
    rw (← kept_index kept size i below) (grind (arith, nat_tests))

-- and written to what is kept
written_kept : (kept : List ℕ) (size i b : ℕ) → length kept ≤ size → i < length kept
    → with_byte (memory_of kept size) (first_address + i) b ≡ Ok (memory_of (slice_set kept i b) size)
unfolding with_byte
written_kept kept size i b within below =
    let whole = length_memory kept size within in
    rw (← kept_set kept size i b below) (grind (arith, nat_tests))

-- bytes that are kept are copied in what is kept
pub copied_kept : (count : ℕ) (kept : List ℕ) (size from to : ℕ)
    → length kept ≤ size → from + count ≤ length kept → to + count ≤ length kept
    → copied count (memory_of kept size) (first_address + from) (first_address + to)
    ≡ (Ok tt, memory_of (copied_within count kept from to) size)
copied_kept zero kept size from to within source target = refl
copied_kept (suc count) kept size from to within source target =
    let b = slice_index kept from in
    let same = length-set kept to b in
    let read = read_kept kept size from within (omega (arith, source)) in
    let written = written_kept kept size to b within (omega (arith, target)) in
    sym (copied-more (suc count) count (memory_of kept size) (memory_of (slice_set kept to b) size)
    (first_address + from) (first_address + to) (first_address + (from + 1)) (first_address + (to + 1)) b refl
    (omega arith) (omega arith) read written)
    ∙ copied_kept count (slice_set kept to b) size (from + 1) (to + 1) (omega (arith, same, within))
    (omega (arith, same, source)) (omega (arith, same, target))

-- a copy keeps how many bytes there are
pub length-copied_within : (count : ℕ) (bytes : List ℕ) (from to : ℕ)
    → length (copied_within count bytes from to) ≡ length bytes
length-copied_within zero bytes from to = refl
length-copied_within (suc count) bytes from to =
    length-copied_within count (slice_set bytes to (slice_index bytes from)) (from + 1) (to + 1)
    ∙ length-set bytes to (slice_index bytes from)

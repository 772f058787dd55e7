-- A copy keeps memory's size, and stops at its edge.
use Rattle.std.proofs.Common.{◌≡◌, ℕ, zero, suc, ◌+◌, ◌<◌, ◌≤◌, List, length, Result}
use Rattle.std.proofs.Common.{Ok, Err, Bool, true, false, cond, refl, arith, ◌∙◌}
use Rattle.std.proofs.lemmas.Bool.Decides.{nat_tests}
use Rattle.node_memory.specs.Bytes.{with_byte, byte_at, copied, first_address, is_inside}
use Rattle.node_memory.specs.declared.fault.Fault.{Fault}
use Rattle.node_memory.specs.declared.fault.Fault.TheVariants.{OutsideMemory}
use Rattle.node_memory.proofs.Writes.{length-with_byte}

-- the one fault of a read and of a write
fault-is : {A : Type 0} (b : Bool) (x : A) (f : Fault) → cond b (Ok x) (Err OutsideMemory) ≡ Err f → f ≡ OutsideMemory
fault-is true x f same = cc
fault-is false x f same = cc

read_fault : (m : List ℕ) (a : ℕ) (f : Fault) → byte_at m a ≡ Err f → f ≡ OutsideMemory
unfolding byte_at
read_fault m a f same = fault-is (is_inside m a) _ f same

write_fault : (m : List ℕ) (a x : ℕ) (f : Fault) → with_byte m a x ≡ Err f → f ≡ OutsideMemory
unfolding with_byte
write_fault m a x f same = fault-is (is_inside m a) _ f same

read_inside : (m : List ℕ) (a x : ℕ) → byte_at m a ≡ Ok x → (first_address ≤ a) × (a < first_address + length m)
unfolding byte_at
read_inside m a x same = (grind (arith, nat_tests), grind (arith, nat_tests))

-- the first byte of a copy: not read, not written, or copied
copied-unread : (c : ℕ) (m : List ℕ) (from to : ℕ) (f : Fault) → byte_at m from ≡ Err f
    → copied (suc c) m from to ≡ (Err f, m)
copied-unread c m from to f same = rw same refl

copied-unwritten : (c : ℕ) (m : List ℕ) (from to x : ℕ) (f : Fault) → byte_at m from ≡ Ok x → with_byte m to x ≡ Err f
    → copied (suc c) m from to ≡ (Err f, m)
copied-unwritten c m from to x f same equal = rw (same, equal) refl

copied-first : (c : ℕ) (m n : List ℕ) (from to x : ℕ) → byte_at m from ≡ Ok x → with_byte m to x ≡ Ok n
    → copied (suc c) m from to ≡ copied c n (from + 1) (to + 1)
copied-first c m n from to x same equal = rw (same, equal) refl

-- what holds of a copy that stops at its first byte, and of one that goes on, holds of each
by_first : (P : Result (Unit {0}) Fault × List ℕ → Type 0) (c : ℕ) (m : List ℕ) (from to : ℕ)
    → P (Err OutsideMemory, m)
    → ((x : ℕ) (n : List ℕ) → byte_at m from ≡ Ok x → with_byte m to x ≡ Ok n → P (copied c n (from + 1) (to + 1)))
    → P (copied (suc c) m from to)
by_first P c m from to stops goes = of_read (byte_at m from) refl where
  of_write : (x : ℕ) (s : Result (List ℕ) Fault) → byte_at m from ≡ Ok x → with_byte m to x ≡ s
      → P (copied (suc c) m from to)
  of_write x (Ok n) h k = rw (copied-first c m n from to x h k) (goes x n h k)
  of_write x (Err f) h k = rw (copied-unwritten c m from to x f h k, write_fault m to x f k) stops

  of_read : (r : Result ℕ Fault) → byte_at m from ≡ r → P (copied (suc c) m from to)
  of_read (Ok x) h = of_write x (with_byte m to x) h refl
  of_read (Err f) h = rw (copied-unread c m from to f h, read_fault m from f h) stops

-- a copy keeps the length of memory
pub length-copied : (count : ℕ) (m : List ℕ) (from to : ℕ) → length (copied count m from to).1 ≡ length m
length-copied zero m from to = refl
length-copied (suc c) m from to =
    by_first (λ r. length r.1 ≡ length m) c m from to refl
    (λ x n h k. length-copied c n (from + 1) (to + 1) ∙ length-with_byte m n to x k)

-- from an address inside or right after memory, with more bytes to copy than there are from it on
stops_past : (count : ℕ) (m : List ℕ) (from to : ℕ)
    → from ≤ first_address + length m → first_address + length m < from + count
    → (copied count m from to).0 ≡ Err OutsideMemory
stops_past zero m from to most past = absurd (omega arith)
stops_past (suc c) m from to most past =
    by_first (λ r. r.0 ≡ Err OutsideMemory) c m from to refl
    (λ x n h k.
    let i = read_inside m from x h in
    let e = length-with_byte m n to x k in
    stops_past c n (from + 1) (to + 1) (omega arith) (omega arith))

-- more bytes than memory has can't be copied
pub copied-edge : (count : ℕ) (m : List ℕ) (from to : ℕ) → length m < count
    → (copied count m from to).0 ≡ Err OutsideMemory
copied-edge zero m from to more = absurd (omega arith)
copied-edge (suc c) m from to more =
    by_first (λ r. r.0 ≡ Err OutsideMemory) c m from to refl
    (λ x n h k.
    let i = read_inside m from x h in
    let e = length-with_byte m n to x k in
    stops_past c n (from + 1) (to + 1) (omega arith) (omega arith))

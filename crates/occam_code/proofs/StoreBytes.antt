-- A byte of a store is written, in the workspace that holds it: for the law of processes.
use Rattle.std.proofs.Common.{◌≡◌, ℕ, zero, suc, ◌+◌, ◌-◌, ◌*◌, ◌/◌, ◌%◌, ◌^◌, ◌<◌, ◌≤◌, ◌⊎◌, inl, inr, List, [], ◌∷◌, length, take, Ok, refl, sym, ap, ◌∙◌, subst, arith}
use Rattle.std.specs.Prelude.{slice_index, slice_set}
use Rattle.node_memory.specs.Bytes.{first_address, byte_at, with_byte, word_from, result_and_then}
use Rattle.node_memory.specs.Words.{◌⊕◌}
use Rattle.occam_core.specs.Processes.{Situation, byte_in, with_byte_of, with_byte_in, with_bytes_in, bytes_of_store}
use Rattle.occam_code.specs.Evaluates.{word_in, Holds}
use Rattle.occam_code.specs.Alone.{with_bytes, bytes_at}
use Rattle.occam_code.proofs.Workspace.{set_bytes, byte_is}
use Rattle.occam_code.proofs.Assigning.{set_same, set_other, apart_or}
use Rattle.occam_code.proofs.MessageBytes.{byte_put}
use Rattle.occam_code.proofs.Behaving.{Ground, Held, set_long}

-- another byte than the one that was written
other_place : (m : List ℕ) (i j b : ℕ) → (i < j) ⊎ (j < i) → slice_index (slice_set m i b) j ≡ slice_index m j
other_place m i j b apart = set_other m i b j apart

-- a word with another byte
byte_written : (m : List ℕ) (offset j b : ℕ) → j < 4 → offset + 3 < length m → ((i : ℕ) → slice_index m i < 2 ^ 8) →
    b < 2 ^ 8
    → word_from (slice_set m (offset + j) b) offset ≡ with_byte_of (word_from m offset) j b
byte_written m offset zero b below within bytes fits =
    let here : slice_index (slice_set m (offset + 0) b) offset ≡ b =
    subst (λ k. slice_index (slice_set m (offset + 0) b) k ≡ b) (omega arith)
    (set_same m (offset + 0) b (omega (arith, within))) in
    let e1 = other_place m (offset + 0) (offset + 1) b (inl (omega arith)) in
    let e2 = other_place m (offset + 0) (offset + 2) b (inl (omega arith)) in
    let e3 = other_place m (offset + 0) (offset + 3) b (inl (omega arith)) in
    omega (arith, here, e1, e2, e3, bytes offset, bytes (offset + 1), bytes (offset + 2), bytes (offset + 3), fits)
byte_written m offset (suc zero) b below within bytes fits =
    let here = set_same m (offset + 1) b (omega (arith, within)) in
    let e0 = other_place m (offset + 1) offset b (inr (omega arith)) in
    let e2 = other_place m (offset + 1) (offset + 2) b (inl (omega arith)) in
    let e3 = other_place m (offset + 1) (offset + 3) b (inl (omega arith)) in
    omega (arith, here, e0, e2, e3, bytes offset, bytes (offset + 1), bytes (offset + 2), bytes (offset + 3), fits)
byte_written m offset (suc (suc zero)) b below within bytes fits =
    let here = set_same m (offset + 2) b (omega (arith, within)) in
    let e0 = other_place m (offset + 2) offset b (inr (omega arith)) in
    let e1 = other_place m (offset + 2) (offset + 1) b (inr (omega arith)) in
    let e3 = other_place m (offset + 2) (offset + 3) b (inl (omega arith)) in
    omega (arith, here, e0, e1, e3, bytes offset, bytes (offset + 1), bytes (offset + 2), bytes (offset + 3), fits)
byte_written m offset (suc (suc (suc zero))) b below within bytes fits =
    let here = set_same m (offset + 3) b (omega (arith, within)) in
    let e0 = other_place m (offset + 3) offset b (inr (omega arith)) in
    let e1 = other_place m (offset + 3) (offset + 1) b (inr (omega arith)) in
    let e2 = other_place m (offset + 3) (offset + 2) b (inr (omega arith)) in
    omega (arith, here, e0, e1, e2, bytes offset, bytes (offset + 1), bytes (offset + 2), bytes (offset + 3), fits)
byte_written m offset (suc (suc (suc (suc j)))) b below within bytes fits = absurd (omega arith)

-- a word none of whose bytes was written
word_beside : (m : List ℕ) (offset i b : ℕ) → (i < offset) ⊎ (offset + 4 ≤ i) → word_from (slice_set m i b) offset ≡
    word_from m offset
word_beside m offset i b (inl before) =
    let e : (k : ℕ) → offset ≤ k → slice_index (slice_set m i b) k ≡ slice_index m k =
    λ k from. other_place m i k b (inl (omega (arith, before, from))) in
    rw (
      e offset (omega arith),
      e (offset + 1) (omega arith),
      e (offset + 2) (omega arith),
      e (offset + 3)
          (omega arith),
    ) refl
word_beside m offset i b (inr behind) =
    let e : (k : ℕ) → k < offset + 4 → slice_index (slice_set m i b) k ≡ slice_index m k =
    λ k under. other_place m i k b (inr (omega (arith, behind, under))) in
    rw (
      e offset (omega arith),
      e (offset + 1) (omega arith),
      e (offset + 2) (omega arith),
      e (offset + 3)
          (omega arith),
    ) refl

beside : (offset base v k i : ℕ) → (v < k) ⊎ (k < v) → v ≡ i / 4
    → (offset + 4 * base + i < offset + 4 * (k + base)) ⊎ (offset + 4 * (k + base) + 4 ≤ offset + 4 * base + i)
beside offset base v k i (inl above) is = inl (omega (arith, above, is))
beside offset base v k i (inr below) is = inr (omega (arith, below, is))

-- the variables after a byte was written
byte_word : (w base size count i b k : ℕ) (store m : List ℕ) → Holds w base size count store m → i < 4 * count
    → count + base ≤ size → length store ≡ count → b < 2 ^ 8 → k < count
    → ((i / 4 < k) ⊎ (k < i / 4)) ⊎ (i / 4 ≡ k)
    → word_in w (slice_set m (w - first_address + 4 * base + i) b) (k + base) ≡ slice_index (with_byte_in store i b) k
byte_word w base size count i b k store m holds within room long fits below (inl apart) =
    let o = w - first_address in
    word_beside m (o + 4 * (k + base)) (o + 4 * base + i) b (beside o base (i / 4) k i apart refl)
    ∙ holds.variables k below
    ∙ sym (set_other store (i / 4) (with_byte_of (slice_index store (i / 4)) (i % 4) b) k apart)
byte_word w base size count i b k store m holds within room long fits below (inr same) =
    let o = w - first_address in
    let v = i / 4 in
    let word = o + 4 * (v + base) in
    let place : o + 4 * base + i ≡ word + i % 4 = omega arith in
    let under : v < count = omega (arith, within) in
    subst (λ n. word_in w (slice_set m (o + 4 * base + i) b) (n + base) ≡ slice_index (with_byte_in store i b) n) same
    (ap (λ n. word_from (slice_set m n b) word) place
    ∙ byte_written m word (i % 4) b (omega arith) (omega (arith, holds.most, under, room)) holds.bytes fits
    ∙ ap (λ n. with_byte_of n (i % 4) b) (holds.variables v under)
    ∙ sym (set_same store v (with_byte_of (slice_index store v) (i % 4) b) (omega (arith, under, long))))

kept_byte : (w base size i b k : ℕ) (m : List ℕ) → 4 * base + i < 4 * size
    → (k < w - first_address + 4 * 0) ⊎ (w - first_address + 4 * size ≤ k)
    → slice_index (slice_set m (w - first_address + 4 * base + i) b) k ≡ slice_index m k
kept_byte w base size i b k m within (inl before) =
    other_place m (w - first_address + 4 * base + i) k b (inr (omega (arith, before)))
kept_byte w base size i b k m within (inr behind) =
    other_place m (w - first_address + 4 * base + i) k b (inl (omega (arith, behind, within)))

-- a byte of the variables is written
pub held_byte : (ground : Ground) (i b : ℕ) (m : List ℕ) (now : Situation) → Held ground m now → i < 4 * ground.count
    → ground.count + ground.base ≤ ground.size → b < 2 ^ 8
    → Held ground (slice_set m (ground.registers.workspace - first_address + 4 * ground.base + i) b)
    (record now { store = with_byte_in now.store i b })
held_byte ground i b m now held within room fits =
    let h = held.holds in
    let at = ground.registers.workspace - first_address + 4 * ground.base + i in
    let long = set_long m at b in
    let word = with_byte_of (slice_index now.store (i / 4)) (i % 4) b in
    record {
      holds =
          record {
            memory = rw long h.memory;
            bytes = set_bytes m at b h.bytes fits;
            aligned = h.aligned;
            least = h.least;
            most = rw long h.most;
            variables = λ k below. byte_word ground.registers.workspace ground.base ground.size ground.count i b k
                now.store m h within room
                held.long fits below (apart_or (i / 4) k);
          };
      kept =
          record {
            long = long ∙ held.kept.long;
            others = λ k apart. kept_byte ground.registers.workspace ground.base ground.size i b k m
                (omega (arith, within, room)) apart
                ∙ held.kept.others k apart;
          };
      long = set_long now.store (i / 4) word ∙ held.long;
      bytes = held.bytes;
    }

-- bytes of the variables are written
pub record IsFilled (ground : Ground) (i : ℕ) (bytes m : List ℕ) (now : Situation) : Type 0 where
  pub memory : List ℕ
  pub put : with_bytes m (ground.registers.workspace + 4 * ground.base + i) bytes ≡ Ok memory
  pub held : Held ground memory (record now { store = with_bytes_in now.store i bytes })

-- they are
pub filled : (ground : Ground) (bytes : List ℕ) (i : ℕ) (m : List ℕ) (now : Situation) → Held ground m now
    → i + length bytes ≤ 4 * ground.count → ground.count + ground.base ≤ ground.size
    → ((j : ℕ) → slice_index bytes j < 2 ^ 8) → IsFilled ground i bytes m now
filled ground [] i m now held within room small = record { memory = m; put = refl; held = held }
filled ground (byte ∷ bytes) i m now held within room small =
    let h = held.holds in
    let w = ground.registers.workspace in
    let a = w + 4 * ground.base + i in
    let next = slice_set m (w - first_address + 4 * ground.base + i) byte in
    let below : i < 4 * ground.count = omega (arith, within) in
    let one : with_byte m a byte ≡ Ok next =
    byte_put m a byte (omega (arith, h.least)) (omega (arith, h.least, h.most, below, room))
    ∙ ap (λ q. Ok (slice_set m q byte)) (omega (arith, h.least)) in
    let rest = filled ground bytes (i + 1) next (record now { store = with_byte_in now.store i byte })
    (held_byte ground i byte m now held below room (small 0)) (omega (arith, within)) room (λ j. small (suc j)) in
    let after : a ⊕ 1 ≡ w + 4 * ground.base + (i + 1) =
    omega (arith, h.least, h.most, h.memory.most, below, room) in
    record {
      memory = rest.memory;
      put = ap (λ q. result_and_then q (λ n. with_bytes n (a ⊕ 1) bytes)) one
          ∙ ap (λ q. with_bytes next q bytes) after ∙ rest.put;
      held = rest.held;
    }

-- bytes of the variables are read
pub bytes_found : (ground : Ground) (count i : ℕ) (m : List ℕ) (now : Situation) → Held ground m now
    → i + count ≤ 4 * ground.count → ground.count + ground.base ≤ ground.size
    → bytes_at count m (ground.registers.workspace + 4 * ground.base + i) ≡ Ok (bytes_of_store count now.store i)
bytes_found ground zero i m now held within room = refl
bytes_found ground (suc count) i m now held within room =
    let h = held.holds in
    let w = ground.registers.workspace in
    let a = w + 4 * ground.base + i in
    let under : i / 4 < ground.count = omega (arith, within) in
    let one : byte_at m a ≡ Ok (byte_in now.store i) =
    ap (λ q. byte_at m q) (omega arith)
    ∙ byte_is w ground.base ground.size ground.count 0 i now.store m h (omega (arith, under, room))
    ∙ ap (λ q. Ok (word_in w m q / 2 ^ (8 * (i % 4)) % 2 ^ 8)) (omega arith)
    ∙ ap (λ q. Ok (q / 2 ^ (8 * (i % 4)) % 2 ^ 8)) (h.variables (i / 4) under) in
    let after : a ⊕ 1 ≡ w + 4 * ground.base + (i + 1) =
    omega (arith, h.least, h.most, h.memory.most, under, room) in
    let rest = bytes_found ground count (i + 1) m now held (omega (arith, within)) room in
    ap (λ q. result_and_then q
    (λ byte. result_and_then (bytes_at count m (a ⊕ 1)) (λ bytes. Ok (byte ∷ bytes)))) one
    ∙ ap (λ q. result_and_then (bytes_at count m q) (λ bytes. Ok (byte_in now.store i ∷ bytes))) after
    ∙ ap (λ q. result_and_then q (λ bytes. Ok (byte_in now.store i ∷ bytes))) rest

-- no byte is too large
nothing_small : (bytes : List ℕ) → bytes ≡ [] → (j : ℕ) → slice_index bytes j < 2 ^ 8
nothing_small bytes none j = subst (λ l. slice_index l j < 2 ^ 8) (sym none) (omega arith)

-- the first of some bytes
pub first_bytes : (count : ℕ) (coming : List ℕ) → ((j : ℕ) → slice_index coming j < 2 ^ 8)
    → (j : ℕ) → slice_index (take count coming) j < 2 ^ 8
first_bytes zero coming small j = nothing_small (take zero coming) refl j
first_bytes (suc count) [] small j = small j
first_bytes (suc count) (byte ∷ coming) small zero = small 0
first_bytes (suc count) (byte ∷ coming) small (suc j) = first_bytes count coming (λ i. small (suc i)) j

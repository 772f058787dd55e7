-- A variable gets a word, in a store and in the workspace that holds it: for the law of processes.
use Rattle.std.proofs.Common.{◌≡◌, ℕ, zero, suc, ◌+◌, ◌-◌, ◌*◌, ◌^◌, ◌<◌, ◌≤◌, ◌⊎◌, inl, inr, List, length, refl, sym, ap, ◌∙◌, subst, arith}
use Rattle.std.specs.Prelude.{slice_index, slice_set}
use Rattle.std.proofs.lemmas.Grind.{common_steps}
use Rattle.node_memory.specs.Words.{◌⊕◌, ◌⊗◌}
use Rattle.node_memory.specs.Bytes.{first_address, with_word_from}
use Rattle.occam_code.specs.Evaluates.{word_in, Holds, KeepsOthers}
use Rattle.occam_code.proofs.Workspace.{word_address, with_word_in, length-with, other_byte, bytes_with, stored_word, kept_store, kept_then}
use Rattle.occam_code.proofs.Running.{word_after}

-- another word than the one that was written
pub other_word : (w j k x : ℕ) (m : List ℕ) → (j < k) ⊎ (k < j) → word_in w (with_word_in w m j x) k ≡ word_in w m k
other_word w j k x m (inl above) =
    let o = w - first_address + 4 * j in
    let b : (i : ℕ) → o + 4 ≤ i → slice_index (with_word_from m o x) i ≡ slice_index m i =
    λ i from. other_byte m o x i (inr from) in
    let p = w - first_address + 4 * k in
    rw (
      b p (omega (arith, above)),
      b (p + 1) (omega (arith, above)),
      b (p + 2) (omega (arith, above)),
      b (p + 3)
          (omega (arith, above)),
    ) refl
other_word w j k x m (inr below) =
    let o = w - first_address + 4 * j in
    let b : (i : ℕ) → i < o → slice_index (with_word_from m o x) i ≡ slice_index m i =
    λ i under. other_byte m o x i (inl under) in
    let p = w - first_address + 4 * k in
    rw (
      b p (omega (arith, below)),
      b (p + 1) (omega (arith, below)),
      b (p + 2) (omega (arith, below)),
      b (p + 3)
          (omega (arith, below)),
    ) refl

-- what was written is read
pub set_same : (store : List ℕ) (v x : ℕ) → v < length store → slice_index (slice_set store v x) v ≡ x
set_same store v x below = grind (arith, common_steps)

-- another place is as it was
pub set_other : (store : List ℕ) (v x k : ℕ) → (v < k) ⊎ (k < v) → slice_index (slice_set store v x) k ≡ slice_index
    store k
set_other store v x k (inl above) = grind (arith, common_steps)
set_other store v x k (inr below) = grind (arith, common_steps)

-- which of two numbers is less
pub apart_or : (v k : ℕ) → ((v < k) ⊎ (k < v)) ⊎ (v ≡ k)
apart_or zero zero = inr refl
apart_or zero (suc k) = inl (inl (omega arith))
apart_or (suc v) zero = inl (inr (omega arith))
apart_or (suc v) (suc k) = apart_more v k (apart_or v k)
  where
    apart_more : (v k : ℕ) → ((v < k) ⊎ (k < v)) ⊎ (v ≡ k) → ((suc v < suc k) ⊎ (suc k < suc v)) ⊎ (suc v ≡ suc k)
    apart_more v k (inl (inl h)) = inl (inl (omega (arith, h)))
    apart_more v k (inl (inr h)) = inl (inr (omega (arith, h)))
    apart_more v k (inr h) = inr (ap suc h)

shifted : (v k base : ℕ) → (v < k) ⊎ (k < v) → (v + base < k + base) ⊎ (k + base < v + base)
shifted v k base (inl h) = inl (omega (arith, h))
shifted v k base (inr h) = inr (omega (arith, h))

assigned_word : (w base size count v x k : ℕ) (store m : List ℕ) → Holds w base size count store m → v < count
    → count + base ≤ size → x < 2 ^ 32 → length store ≡ count → k < count → ((v < k) ⊎ (k < v)) ⊎ (v ≡ k)
    → word_in w (with_word_in w m (v + base) x) (k + base) ≡ slice_index (slice_set store v x) k
assigned_word w base size count v x k store m holds within room fits long below (inl apart) =
    other_word w (v + base) (k + base) x m (shifted v k base apart)
    ∙ holds.variables k below
    ∙ sym (set_other store v x k apart)
assigned_word w base size count v x k store m holds within room fits long below (inr same) =
    subst (λ i. word_in w (with_word_in w m (v + base) x) (i + base) ≡ slice_index (slice_set store v x) i) same
    (stored_word w base size count (v + base) x store m holds (omega (arith, within, room)) fits
    ∙ sym (set_same store v x (omega (arith, within, long))))

-- a variable gets a word
pub holds_assigned : (w base size count v x : ℕ) (store m : List ℕ) → Holds w base size count store m → v < count
    → count + base ≤ size → x < 2 ^ 32 → length store ≡ count
    → Holds w base size count (slice_set store v x) (with_word_in w m (v + base) x)
holds_assigned w base size count v x store m holds within room fits long =
    record {
      memory = rw (length-with m (w - first_address + 4 * (v + base)) x) holds.memory;
      bytes = bytes_with m (w - first_address + 4 * (v + base)) x holds.bytes;
      aligned = holds.aligned;
      least = holds.least;
      most = rw (length-with m (w - first_address + 4 * (v + base)) x) holds.most;
      variables = λ k below.
          assigned_word w base size count v x k store m holds within room fits long below (apart_or v k);
    }

-- a word of the workspace is written
pub kept_word : (w size j x : ℕ) (begun m : List ℕ) → KeepsOthers w 0 size begun m → j < size
    → KeepsOthers w 0 size begun (with_word_in w m j x)
kept_word w size j x begun m kept below =
    kept_then w 0 j size begun m (with_word_in w m j x) (omega arith) kept (kept_store w j size x m below)

-- the word after one
pub next_address : (w base size count v : ℕ) (store m : List ℕ) → Holds w base size count store m → v + 1 < count
    → count + base ≤ size → w ⊕ 4 ⊗ (v ⊕ base) ⊕ 4 ≡ w ⊕ 4 ⊗ (v + 1 + base)
next_address w base size count v store m holds below room =
    let long = length m in
    let next = word_after base v count size (w - first_address) long (omega (arith, below)) room holds.most
    holds.memory.most in
    let here = word_address w (v + base) size long holds.least holds.most holds.memory.most
    (omega (arith, below, room)) in
    let there = word_address w (v + 1 + base) size long holds.least holds.most holds.memory.most
    (omega (arith, below, room)) in
    ap (λ j. w ⊕ 4 ⊗ j ⊕ 4) next
    ∙ ap (λ a. a ⊕ 4) here
    ∙ omega (arith, holds.least, holds.most, holds.memory.most, below, room)
    ∙ sym there

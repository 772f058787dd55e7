-- Words of a workspace are read and written.
use Rattle.std.proofs.Common.{◌≡◌, ℕ, zero, suc, ◌+◌, ◌-◌, ◌*◌, ◌/◌, ◌%◌, ◌^◌, ◌<◌, ◌≤◌, ◌⊎◌, inl, inr, List, length, Ok, Err, refl, sym, ap, ◌∙◌, arith, length-set, cond, true, slice_index, slice_set}
use Rattle.std.proofs.lemmas.Bool.Decides.{nat_tests}
use Rattle.std.proofs.lemmas.Grind.{common_steps}
use Rattle.node_memory.specs.Words.{◌⊕◌, ◌⊗◌}
use Rattle.node_memory.specs.Bytes.{first_address, is_inside as has_byte, byte_at, holds_word, word_offset, word_at, with_word, word_from, with_word_from}
use Rattle.node_memory.specs.declared.fault.Fault.TheVariants.{OutsideMemory}
use Rattle.occam_code.specs.Evaluates.{word_in, Holds, KeepsOthers}

-- the address of a word
pub word_address : (w j size long : ℕ) → first_address ≤ w → w - first_address + 4 * size ≤ long → long ≤ 65536
    → j < size
    → w ⊕ 4 ⊗ j ≡ w + 4 * j
word_address w j size long least most bound below = omega arith

offset_of : (w j : ℕ) → first_address ≤ w → w % 4 ≡ 0 → word_offset (w + 4 * j) ≡ w - first_address + 4 * j
offset_of w j least aligned = omega arith

is_inside : (w j size : ℕ) (m : List ℕ) → first_address ≤ w → w % 4 ≡ 0 → w - first_address + 4 * size ≤ length m
    → j < size → holds_word m (w + 4 * j) ≡ true
is_inside w j size m least aligned most below =
    let at = offset_of w j least aligned in
    let within : word_offset (w + 4 * j) + 3 < length m = omega (arith, at, most, below) in
    grind (arith, nat_tests)

-- a word of the workspace is read
pub word_is : (w base size count j : ℕ) (store m : List ℕ) → Holds w base size count store m → j < size
    → word_at m (w ⊕ 4 ⊗ j) ≡ Ok (word_in w m j)
unfolding word_at
word_is w base size count j store m holds below =
    let a = w + 4 * j in
    let e = word_address w j size (length m) holds.least holds.most holds.memory.most below in
    let inside = is_inside w j size m holds.least holds.aligned holds.most below in
    ap (λ i. word_at m i) e
    ∙ ap (λ b. cond b (Ok (word_from m (word_offset a))) (Err OutsideMemory)) inside
    ∙ ap (λ i. Ok (word_from m i)) (offset_of w j holds.least holds.aligned)

-- memory with a word of the workspace
abbrev pub with_word_in : ℕ → List ℕ → ℕ → ℕ → List ℕ
with_word_in w m j x = with_word_from m (w - first_address + 4 * j) x

-- a word of the workspace is written
pub word_put : (w base size count j x : ℕ) (store m : List ℕ) → Holds w base size count store m → j < size
    → with_word m (w ⊕ 4 ⊗ j) x ≡ Ok (with_word_in w m j x)
unfolding with_word
word_put w base size count j x store m holds below =
    let a = w + 4 * j in
    let e = word_address w j size (length m) holds.least holds.most holds.memory.most below in
    let inside = is_inside w j size m holds.least holds.aligned holds.most below in
    ap (λ i. with_word m i x) e
    ∙ ap (λ b. cond b (Ok (with_word_from m (word_offset a) x)) (Err OutsideMemory)) inside
    ∙ ap (λ i. Ok (with_word_from m i x)) (offset_of w j holds.least holds.aligned)

-- a write leaves the length
pub length-with : (m : List ℕ) (i x : ℕ) → length (with_word_from m i x) ≡ length m
length-with m i x = simp length-set

read_back : (m : List ℕ) (i x : ℕ) → x < 2 ^ 32 → i + 3 < length m → word_from (with_word_from m i x) i ≡ x
read_back m i x fits within = grind (arith, common_steps)

-- a byte beside a word that was written
pub other_byte : (m : List ℕ) (i x j : ℕ) → (j < i) ⊎ (i + 4 ≤ j)
    → slice_index (with_word_from m i x) j ≡ slice_index m j
other_byte m i x j (inl below) = grind (arith, common_steps)
other_byte m i x j (inr above) = grind (arith, common_steps)

-- bytes are bytes after a byte was written
pub set_bytes : (m : List ℕ) (k v : ℕ) → ((i : ℕ) → slice_index m i < 2 ^ 8) → v < 2 ^ 8
    → (i : ℕ) → slice_index (slice_set m k v) i < 2 ^ 8
set_bytes m k v bytes fits i = let here = bytes i in grind (arith, common_steps, here)

-- and after a word was
pub bytes_with : (m : List ℕ) (k x : ℕ) → ((i : ℕ) → slice_index m i < 2 ^ 8)
    → (i : ℕ) → slice_index (with_word_from m k x) i < 2 ^ 8
bytes_with m k x bytes =
    let one = set_bytes m k (x % 2 ^ 8) bytes (omega arith) in
    let two = set_bytes _ (k + 1) (x / 2 ^ 8 % 2 ^ 8) one (omega arith) in
    let three = set_bytes _ (k + 2) (x / 2 ^ 16 % 2 ^ 8) two (omega arith) in
    set_bytes _ (k + 3) (x / 2 ^ 24 % 2 ^ 8) three (omega arith)

-- a word is below 2 ^ 32
pub word_fits : (m : List ℕ) (k : ℕ) → ((i : ℕ) → slice_index m i < 2 ^ 8) → word_from m k < 2 ^ 32
word_fits m k bytes = omega (arith, bytes k, bytes (k + 1), bytes (k + 2), bytes (k + 3))

-- words below those that may change stay
pub word_kept : (w first size j : ℕ) (m u : List ℕ) → KeepsOthers w first size m u → j < first
    → word_in w u j ≡ word_in w m j
word_kept w first size j m u kept below =
    let o = w - first_address + 4 * j in
    let b : (i : ℕ) → i < o + 4 → slice_index u i ≡ slice_index m i =
    λ i under. kept.others i (inl (omega (arith, under, below))) in
    rw (b o (omega arith), b (o + 1) (omega arith), b (o + 2) (omega arith), b (o + 3) (omega arith)) refl

-- memory that hasn't changed
pub kept_same : (w first size : ℕ) (m : List ℕ) → KeepsOthers w first size m m
kept_same w first size m = record { long = refl; others = λ i apart. refl }

others_then : (w first next size i : ℕ) (m u after : List ℕ) → first ≤ next → KeepsOthers w first size m u
    → KeepsOthers w next size u after → (i < w - first_address + 4 * first) ⊎ (w - first_address + 4 * size ≤ i)
    → slice_index after i ≡ slice_index m i
others_then w first next size i m u after below kept kept' (inl h) =
    kept'.others i (inl (omega (arith, h, below))) ∙ kept.others i (inl h)
others_then w first next size i m u after below kept kept' (inr h) = kept'.others i (inr h) ∙ kept.others i (inr h)

-- memory that has changed twice
pub kept_then : (w first next size : ℕ) (m u after : List ℕ) → first ≤ next → KeepsOthers w first size m u
    → KeepsOthers w next size u after → KeepsOthers w first size m after
kept_then w first next size m u after below kept kept' =
    record {
      long = kept'.long ∙ kept.long;
      others = λ i apart. others_then w first next size i m u after below kept
          kept' apart;
    }

stored_other : (w j size x i : ℕ) (m : List ℕ) → j < size
    → (i < w - first_address + 4 * j) ⊎ (w - first_address + 4 * size ≤ i)
    → slice_index (with_word_in w m j x) i ≡ slice_index m i
stored_other w j size x i m below (inl h) = other_byte m (w - first_address + 4 * j) x i (inl h)
stored_other w j size x i m below (inr h) =
    other_byte m (w - first_address + 4 * j) x i (inr (omega (arith, h, below)))

-- a temporary is written
pub kept_store : (w j size x : ℕ) (m : List ℕ) → j < size → KeepsOthers w j size m (with_word_in w m j x)
kept_store w j size x m below =
    record {
      long = length-with m (w - first_address + 4 * j) x;
      others = λ i apart. stored_other w j size x i m below apart;
    }

-- a word is read after it was written
pub stored_word : (w base size count j x : ℕ) (store m : List ℕ) → Holds w base size count store m → j < size → x < 2
    ^ 32
    → word_in w (with_word_in w m j x) j ≡ x
stored_word w base size count j x store m holds below fits =
    read_back m (w - first_address + 4 * j) x fits (omega (arith, holds.most, below))

-- a workspace holds its variables as long as they are kept
pub holds_kept : (w base size count first : ℕ) (store m u : List ℕ) → Holds w base size count store m → count + base
    ≤ first
    → KeepsOthers w first size m u → ((i : ℕ) → slice_index u i < 2 ^ 8) → Holds w base size count store u
holds_kept w base size count first store m u holds free kept bytes =
    record {
      memory = rw kept.long holds.memory;
      bytes = bytes;
      aligned = holds.aligned;
      least = holds.least;
      most = rw kept.long holds.most;
      variables = λ v below.
          word_kept w first size (v + base) m u kept (omega (arith, free, below)) ∙ holds.variables v below;
    }

-- a temporary is written, and the variables stay
pub holds_store : (w base size count j x : ℕ) (store m : List ℕ) → Holds w base size count store m → count + base ≤ j
    → j < size
    → Holds w base size count store (with_word_in w m j x)
holds_store w base size count j x store m holds free below =
    holds_kept w base size count j store m (with_word_in w m j x) holds free (kept_store w j size x m below)
    (bytes_with m (w - first_address + 4 * j) x holds.bytes)

-- a byte of a word
byte_from : (m : List ℕ) (i k : ℕ) → ((j : ℕ) → slice_index m j < 2 ^ 8) → k < 4
    → slice_index m (i + k) ≡ word_from m i / 2 ^ (8 * k) % 2 ^ 8
byte_from m i zero bytes below =
    let e : i + 0 ≡ i = omega arith in
    ap (λ j. slice_index m j) e ∙ omega (arith, bytes i, bytes (i + 1), bytes (i + 2), bytes (i + 3))
byte_from m i (suc zero) bytes below = omega (arith, bytes i, bytes (i + 1), bytes (i + 2), bytes (i + 3))
byte_from m i (suc (suc zero)) bytes below = omega (arith, bytes i, bytes (i + 1), bytes (i + 2), bytes (i + 3))
byte_from m i (suc (suc (suc zero))) bytes below = omega (arith, bytes i, bytes (i + 1), bytes (i + 2), bytes (i + 3))
byte_from m i (suc (suc (suc (suc k)))) bytes below = absurd (omega arith)

byte_inside : (w base v i size : ℕ) (m : List ℕ) → first_address ≤ w → w - first_address + 4 * size ≤ length m
    → v + i / 4 + base < size → has_byte m (w + 4 * (v + base) + i) ≡ true
byte_inside w base v i size m least most below =
    let within : w + 4 * (v + base) + i - first_address < length m = omega (arith, most, below, least) in
    grind (arith, nat_tests)

-- a byte of an array is read, that begins at a variable
pub byte_is : (w base size count v i : ℕ) (store m : List ℕ) → Holds w base size count store m → v + i / 4 + base < size
    → byte_at m (w + 4 * (v + base) + i) ≡ Ok (word_in w m (v + i / 4 + base) / 2 ^ (8 * (i % 4)) % 2 ^ 8)
unfolding byte_at
byte_is w base size count v i store m holds below =
    let a = w + 4 * (v + base) + i in
    let o = w - first_address + 4 * (v + i / 4 + base) in
    let inside = byte_inside w base v i size m holds.least holds.most below in
    let place : a - first_address ≡ o + i % 4 = omega (arith, holds.least) in
    ap (λ b. cond b (Ok (slice_index m (a - first_address))) (Err OutsideMemory)) inside
    ∙ ap (λ j. Ok (slice_index m j)) place
    ∙ ap Ok (byte_from m o (i % 4) holds.bytes (omega arith))

-- the address of an array
pub array_address : (w base v size long : ℕ) → first_address ≤ w → w - first_address + 4 * size ≤ long → long ≤ 65536
    → v + base < size → w ⊕ 4 ⊗ (v ⊕ base) ≡ w + 4 * (v + base)
array_address w base v size long least most bound below =
    let next : v ⊕ base ≡ v + base = omega arith in
    ap (λ j. w ⊕ 4 ⊗ j) next ∙ word_address w (v + base) size long least most bound below

-- the address of an element that is a byte
pub byte_address : (w v i base size count : ℕ) (store m : List ℕ) → Holds w base size count store m → v + i / 4 +
    base < size
    → w ⊕ 4 ⊗ (v ⊕ base) ⊕ i ≡ w + 4 * (v + base) + i
byte_address w v i base size count store m holds below =
    ap (λ a. a ⊕ i)
    (array_address w base v size (length m) holds.least holds.most holds.memory.most (omega (arith, below)))
    ∙ omega (arith, holds.least, holds.most, holds.memory.most, below)

-- the address of an element that is a word
pub element_address : (w v i base size count : ℕ) (store m : List ℕ) → Holds w base size count store m → v + i + base
    < size
    → w ⊕ 4 ⊗ (v ⊕ base) ⊕ 4 ⊗ i ⊕ 4 ⊗ 0 ≡ w ⊕ 4 ⊗ (v + i + base)
element_address w v i base size count store m holds below =
    let long = length m in
    let same : w + 4 * (v + base) ⊕ 4 ⊗ i ⊕ 4 ⊗ 0 ≡ w + 4 * (v + i + base) =
    omega (arith, holds.least, holds.most, holds.memory.most, below) in
    ap (λ a. a ⊕ 4 ⊗ i ⊕ 4 ⊗ 0)
    (array_address w base v size long holds.least holds.most holds.memory.most (omega (arith, below)))
    ∙ same
    ∙ sym (word_address w (v + i + base) size long holds.least holds.most holds.memory.most below)

-- What memory holds after a boot: code stored byte by byte, and the words of channels freed one by one, for the law
-- `boot_loads_the_code`.
use Rattle.std.proofs.Common.{◌≡◌, ◌≢◌, ℕ, zero, suc, ◌+◌, ◌-◌, ◌*◌, ◌%◌, ◌<◌, ◌≤◌, ◌⊎◌, inl, inr}
use Rattle.std.proofs.Common.{Bool, true, false, cond, ◌&&◌, nat_le, nat_lt, List, [], ◌∷◌, length}
use Rattle.std.proofs.Common.{slice_index, slice_set, Result, Ok, Err, refl, ◌∙◌, ap, sym, arith}
use Rattle.std.proofs.Common.{length-set}
use Rattle.std.proofs.lemmas.Bool.{cases_lt}
use Rattle.std.proofs.lemmas.Grind.{common_steps}
use Rattle.node_memory.specs.Bytes.{first_address, is_inside, byte_at, with_byte, word_offset, holds_word, word_at}
use Rattle.node_memory.specs.Bytes.{with_word, with_word_from}
use Rattle.node_memory.specs.Laws.{WordIsRead, OtherWordsStay, WordKeepsTheSize}
use Rattle.node_memory.specs.Laws.{ByteIsRead, OtherBytesStay, ByteKeepsTheSize}
use Rattle.node_memory.specs.Marks.{not_process}
use Rattle.node_memory.specs.declared.fault.Fault.{Fault}
use Rattle.node_memory.specs.declared.fault.Fault.TheVariants.{OutsideMemory}
use Rattle.bootstrap.specs.Boot.{or_kept, freed}
use Rattle.bootstrap.specs.Delivered.{HoldsCode}

-- bytes stored from an address upwards, those outside memory dropped
abbrev pub stored_from : List ℕ → ℕ → List ℕ → List ℕ
stored_from [] a m = m
stored_from (byte ∷ bytes) a m = stored_from bytes (a + 1) (or_kept (with_byte m a byte) m)

-- what holds of memory after a write, and before it, holds if a write outside is dropped
kept : (P : List ℕ → Type 0) (outcome : Result (List ℕ) Fault) (m : List ℕ) → ((n : List ℕ) → outcome ≡ Ok n → P n)
    → P m
    → P (or_kept outcome m)
kept P (Ok n) m written before = written n refl
kept P (Err fault) m written before = before

-- ---- code

module _ (size : ByteKeepsTheSize) (read : ByteIsRead) (others : OtherBytesStay) where
  one-size : (m : List ℕ) (a byte : ℕ) → length (or_kept (with_byte m a byte) m) ≡ length m
  one-size m a byte =
      kept (λ (n : List ℕ). length n ≡ length m) (with_byte m a byte) m (λ n same. size m n a byte same) refl

  one-other : (m : List ℕ) (a byte x : ℕ) → a ≢ x → byte_at (or_kept (with_byte m a byte) m) x ≡ byte_at m x
  one-other m a byte x apart =
      kept (λ (n : List ℕ). byte_at n x ≡ byte_at m x) (with_byte m a byte) m
      (λ n same. others m n a x byte apart same) refl

  is-stored : (m : List ℕ) (a byte : ℕ) → is_inside m a ≡ true
      → with_byte m a byte ≡ Ok (slice_set m (a - first_address) byte)
  unfolding with_byte
  is-stored m a byte inside = rw inside refl

  one-same : (m : List ℕ) (a byte : ℕ) → is_inside m a ≡ true → byte_at (or_kept (with_byte m a byte) m) a ≡ Ok byte
  one-same m a byte inside =
      let is = is-stored m a byte inside in
      ap (λ (o : Result (List ℕ) Fault). byte_at (or_kept o m) a) is
      ∙ read m (slice_set m (a - first_address) byte) a byte is

  -- code changes no size
  stored-size : (bytes : List ℕ) (a : ℕ) (m : List ℕ) → length (stored_from bytes a m) ≡ length m
  stored-size [] a m = refl
  stored-size (byte ∷ bytes) a m =
      stored-size bytes (a + 1) (or_kept (with_byte m a byte) m) ∙ one-size m a byte

  -- what lies below it stays
  stored-below : (bytes : List ℕ) (a : ℕ) (m : List ℕ) (x : ℕ) → x < a
      → byte_at (stored_from bytes a m) x ≡ byte_at m x
  stored-below [] a m x below = refl
  stored-below (byte ∷ bytes) a m x below =
      stored-below bytes (a + 1) (or_kept (with_byte m a byte) m) x (omega arith)
      ∙ one-other m a byte x (λ same. omega arith)

  -- and what lies above it
  stored-above : (bytes : List ℕ) (a : ℕ) (m : List ℕ) (x : ℕ) → a + length bytes ≤ x
      → byte_at (stored_from bytes a m) x ≡ byte_at m x
  stored-above [] a m x above = refl
  stored-above (byte ∷ bytes) a m x above =
      stored-above bytes (a + 1) (or_kept (with_byte m a byte) m) x (omega arith)
      ∙ one-other m a byte x (λ same. omega arith)

  -- each byte lies at its place
  stored-same : (bytes : List ℕ) (a : ℕ) (m : List ℕ) (i : ℕ) → i < length bytes → is_inside m (a + i) ≡ true
      → byte_at (stored_from bytes a m) (a + i) ≡ Ok (slice_index bytes i)
  stored-same [] a m i lt inside = absurd (omega arith)
  stored-same (byte ∷ bytes) a m zero lt inside =
      let here : a + zero ≡ a = omega arith in
      ap (byte_at (stored_from bytes (a + 1) (or_kept (with_byte m a byte) m))) here
      ∙ stored-below bytes (a + 1) (or_kept (with_byte m a byte) m) a (omega arith)
      ∙ one-same m a byte (sym (ap (is_inside m) here) ∙ inside)
  stored-same (byte ∷ bytes) a m (suc i) lt inside =
      let next : a + suc i ≡ a + 1 + i = omega arith in
      let n = or_kept (with_byte m a byte) m in
      ap (byte_at (stored_from bytes (a + 1) n)) next
      ∙ stored-same bytes (a + 1) n i (omega arith)
      (ap (λ (k : ℕ). nat_le first_address (a + 1 + i) && nat_lt (a + 1 + i - first_address) k) (one-size m a byte)
      ∙ sym (ap (is_inside m) next) ∙ inside)

-- ---- the words of channels

-- where a write is done, the word lies inside, and this is what it leaves
written-is : (b : Bool) (memory n : List ℕ) → cond b (Ok memory) (Err OutsideMemory) ≡ Ok n → (b ≡ true) × (n ≡ memory)
written-is true memory n same = (refl, cc)
written-is false memory n same = cc

length-four : (m : List ℕ) (i w : ℕ) → length (with_word_from m i w) ≡ length m
length-four m i w = simp length-set

index-four : (m : List ℕ) (i w j : ℕ) → i + 4 ≤ j → slice_index (with_word_from m i w) j ≡ slice_index m j
index-four m i w j apart = grind (arith, common_steps)

-- an aligned word that was written leaves all bytes above it
above-word : (m n : List ℕ) (a w x : ℕ) → a % 4 ≡ 0 → first_address ≤ a → a + 4 ≤ x → with_word m a w ≡ Ok n
    → byte_at n x ≡ byte_at m x
unfolding byte_at with_word
above-word m n a w x whole least above same =
    let p = written-is (holds_word m a) (with_word_from m (word_offset a) w) n same in
    let apart : word_offset a + 4 ≤ x - first_address = omega arith in
    let stays : is_inside (with_word_from m (word_offset a) w) x ≡ is_inside m x =
    ap (λ k. nat_le first_address x && nat_lt (x - first_address) k) (length-four m (word_offset a) w) in
    rw (p.1, stays, index-four m (word_offset a) w (x - first_address) apart) refl

module _ (size : WordKeepsTheSize) (read : WordIsRead) (others : OtherWordsStay) where
  -- freeing changes no size
  freed-size : (k : ℕ) (m : List ℕ) → length (freed k m) ≡ length m
  freed-size zero m = refl
  freed-size (suc k) m =
      kept (λ (n : List ℕ). length n ≡ length (freed k m))
      (with_word (freed k m) (first_address + 4 * k) not_process) (freed k m)
      (λ n same. size (freed k m) n (first_address + 4 * k) not_process same) refl
      ∙ freed-size k m

  -- what lies above the freed words stays
  freed-above : (k : ℕ) (m : List ℕ) (x : ℕ) → first_address + 4 * k ≤ x → byte_at (freed k m) x ≡ byte_at m x
  freed-above zero m x above = refl
  freed-above (suc k) m x above =
      kept (λ (n : List ℕ). byte_at n x ≡ byte_at (freed k m) x)
      (with_word (freed k m) (first_address + 4 * k) not_process) (freed k m)
      (λ n same.
      above-word (freed k m) n (first_address + 4 * k) not_process x (omega arith) (omega arith) (omega arith) same)
      refl
      ∙ freed-above k m x (omega arith)

  holds-freed : (k : ℕ) (m : List ℕ) (a : ℕ) → holds_word m a ≡ true → holds_word (freed k m) a ≡ true
  holds-freed k m a holds =
      ap (λ (j : ℕ). nat_le first_address a && nat_lt (word_offset a + 3) j) (freed-size k m) ∙ holds

  is-written : (m : List ℕ) (a w : ℕ) → holds_word m a ≡ true
      → with_word m a w ≡ Ok (with_word_from m (word_offset a) w)
  unfolding with_word
  is-written m a w holds = rw holds refl

  freed-last : (k : ℕ) (m : List ℕ) → holds_word m (first_address + 4 * k) ≡ true
      → word_at (freed (suc k) m) (first_address + 4 * k) ≡ Ok not_process
  freed-last k m holds =
      let a = first_address + 4 * k in
      let is = is-written (freed k m) a not_process (holds-freed k m a holds) in
      ap (λ (o : Result (List ℕ) Fault). word_at (or_kept o (freed k m)) a) is
      ∙ read (freed k m) (with_word_from (freed k m) (word_offset a) not_process) a not_process (omega arith) is

  freed-cases : (k : ℕ) (m : List ℕ) (j : ℕ) → j < suc k → holds_word m (first_address + 4 * j) ≡ true
      → (j < k → word_at (freed k m) (first_address + 4 * j) ≡ Ok not_process)
      → (j < k) ⊎ (k ≤ j)
      → word_at (freed (suc k) m) (first_address + 4 * j) ≡ Ok not_process
  freed-cases k m j lt holds free (inl before) =
      let a = first_address + 4 * k in
      kept (λ (n : List ℕ). word_at n (first_address + 4 * j) ≡ word_at (freed k m) (first_address + 4 * j))
      (with_word (freed k m) a not_process) (freed k m)
      (λ n same. others (freed k m) n a (first_address + 4 * j) not_process (λ equal. omega arith) same) refl
      ∙ free before
  freed-cases k m j lt holds free (inr past) =
      let last : j ≡ k = omega arith in
      ap (λ (i : ℕ). word_at (freed (suc k) m) (first_address + 4 * i)) last
      ∙ freed-last k m (sym (ap (λ (i : ℕ). holds_word m (first_address + 4 * i)) last) ∙ holds)

  -- each of the words holds no process
  freed-words : (k : ℕ) (m : List ℕ) (j : ℕ) → j < k → holds_word m (first_address + 4 * j) ≡ true
      → word_at (freed k m) (first_address + 4 * j) ≡ Ok not_process
  freed-words zero m j lt holds = absurd (omega arith)
  freed-words (suc k) m j lt holds =
      freed-cases k m j lt holds (λ before. freed-words k m j before holds) (cases_lt j k)

-- ---- both

above-code : (bytes : ByteKeepsTheSize) (byte : ByteIsRead) (other_bytes : OtherBytesStay) (code m : List ℕ) (a : ℕ)
    → (a < 0x80000048) ⊎ (0x80000048 + length code ≤ a)
    → byte_at (stored_from code 0x80000048 m) a ≡ byte_at m a
above-code bytes byte other_bytes code m a (inl below) = stored-below bytes byte other_bytes code 0x80000048 m a below
above-code bytes byte other_bytes code m a (inr above) = stored-above bytes byte other_bytes code 0x80000048 m a above

-- memory holds the code, and its channels are free
pub holds-code : WordKeepsTheSize → WordIsRead → OtherWordsStay → ByteKeepsTheSize → ByteIsRead → OtherBytesStay
    → (code m : List ℕ)
    → HoldsCode code m (freed 9 (stored_from code 0x80000048 m))
holds-code words word other_words bytes byte other_bytes code m =
    let stored = stored_from code 0x80000048 m in
    let held : ℕ → ℕ → Bool = λ a count. nat_le first_address a && nat_lt (word_offset a + 3) count in
    let same : length stored ≡ length m = stored-size bytes byte other_bytes code 0x80000048 m in
    record {
      size = freed-size words word other_words 9 stored ∙ same;
      loaded = λ i lt inside.
          freed-above words word other_words 9 stored (0x80000048 + i) (omega arith)
          ∙ stored-same bytes byte other_bytes code 0x80000048 m i lt inside;
      channels = λ k lt holds.
          freed-words words word other_words 9 stored k lt
          (ap (held (0x80000000 + 4 * k)) same ∙ holds);
      others = λ a least apart.
          freed-above words word other_words 9 stored a (omega arith)
          ∙ above-code bytes byte other_bytes code m a apart;
    }

-- What was written is read back, and all else stays.
use Rattle.std.proofs.Common.{◌≡◌, ◌≢◌, ℕ, ◌+◌, ◌-◌, ◌/◌, ◌%◌, ◌^◌, ◌<◌, ◌≤◌, List, length}
use Rattle.std.proofs.Common.{slice_index, slice_set, Ok, Err, refl, arith, ◌∙◌, ap, get_or-set_other}
use Rattle.std.proofs.Common.{length-set, ◌⊎◌, inl, inr, Bool, true, false, cond, ◌&&◌, nat_le, nat_lt}
use Rattle.std.proofs.lemmas.Bool.Decides.{nat_tests}
use Rattle.std.proofs.lemmas.Grind.{common_steps}
use Rattle.node_memory.specs.Bytes.{byte_at, with_byte, is_inside, word_at, with_word, word_from}
use Rattle.node_memory.specs.Bytes.{with_word_from, word_offset, holds_word, first_address}
use Rattle.node_memory.specs.Words.{aligned}
use Rattle.node_memory.specs.declared.fault.Fault.{Fault}
use Rattle.node_memory.specs.declared.fault.Fault.TheVariants.{OutsideMemory}

-- the four bytes of a word make it again
word_from-with_same : (m : List ℕ) (i w : ℕ) → w < 2 ^ 32 → i + 3 < length m → word_from (with_word_from m i w) i ≡ w
word_from-with_same m i w fits within = grind (arith, common_steps)

-- a word elsewhere stays
word_from-with_other : (m : List ℕ) (i j w : ℕ) → (i + 4 ≤ j) → word_from (with_word_from m i w) j ≡ word_from m j
word_from-with_other m i j w apart = grind (arith, common_steps)

word_from-with_before : (m : List ℕ) (i j w : ℕ) → (j + 4 ≤ i) → word_from (with_word_from m i w) j ≡ word_from m j
word_from-with_before m i j w apart = grind (arith, common_steps)

-- a write changes no length
pub length-with : (m : List ℕ) (i w : ℕ) → length (with_word_from m i w) ≡ length m
length-with m i w = simp length-set

-- where a write is done, the word lies inside, and this is what it leaves
written-is : (b : Bool) (memory n : List ℕ) → cond b (Ok memory) (Err OutsideMemory) ≡ Ok n → (b ≡ true) × (n ≡ memory)
written-is true memory n same = (refl, cc)
written-is false memory n same = cc

inside : (m : List ℕ) (a : ℕ) → holds_word m a ≡ true → (first_address ≤ a) × (word_offset a + 3 < length m)
inside m a same = (grind (arith, nat_tests), grind (arith, nat_tests))

-- a word that was written is read
pub word_at-with_word_same : (m n : List ℕ) (a w : ℕ) → w < 2 ^ 32 → with_word m a w ≡ Ok n → word_at n a ≡ Ok w
unfolding word_at with_word
word_at-with_word_same m n a w fits same =
    let p = written-is (holds_word m a) (with_word_from m (word_offset a) w) n same in
    let within = (inside m a p.0).1 in
    let stays : holds_word (with_word_from m (word_offset a) w) a ≡ true =
    ap (λ k. nat_le first_address a && nat_lt (word_offset a + 3) k) (length-with m (word_offset a) w) ∙ p.0 in
    rw (p.1, stays, word_from-with_same m (word_offset a) w fits within) refl

-- a word elsewhere, if it lies inside
elsewhere : (flag : Bool) (x number : ℕ) → (flag ≡ true → x ≡ number)
    → cond flag (Ok x) (Err OutsideMemory) ≡ cond flag (Ok number) (Err OutsideMemory)
elsewhere true x number given = ap (λ z. Ok z) (given refl)
elsewhere false x number given = refl

word_from-with_apart : (m : List ℕ) (i j w : ℕ) → (i + 4 ≤ j) ⊎ (j + 4 ≤ i)
    → word_from (with_word_from m i w) j ≡ word_from m j
word_from-with_apart m i j w (inl h) = word_from-with_other m i j w h
word_from-with_apart m i j w (inr h) = word_from-with_before m i j w h

apart_offsets : (a b : ℕ) → a / 4 ≢ b / 4 → first_address ≤ a → first_address ≤ b
    → (word_offset a + 4 ≤ word_offset b) ⊎ (word_offset b + 4 ≤ word_offset a)
apart_offsets a b apart less below = grind arith

-- a word that was written leaves every other word
pub word_at-with_word_other : (m n : List ℕ) (a b w : ℕ) → a / 4 ≢ b / 4 → with_word m a w ≡ Ok n
    → word_at n b ≡ word_at m b
unfolding word_at with_word
word_at-with_word_other m n a b w apart same =
    let p = written-is (holds_word m a) (with_word_from m (word_offset a) w) n same in
    let stays : holds_word (with_word_from m (word_offset a) w) b ≡ holds_word m b =
    ap (λ k. nat_le first_address b && nat_lt (word_offset b + 3) k) (length-with m (word_offset a) w) in
    rw (p.1, stays)
    (elsewhere (holds_word m b) _ _
    (λ t. word_from-with_apart m (word_offset a) (word_offset b) w
    (apart_offsets a b apart (inside m a p.0).0 (inside m b t).0)))

-- the four addresses of a word
pub word_at-same_word : (m : List ℕ) (a b : ℕ) → a / 4 ≡ b / 4 → word_at m a ≡ word_at m b
unfolding word_at
word_at-same_word m a b same =
    let o : word_offset a ≡ word_offset b = omega arith in
    let t : nat_le first_address a ≡ nat_le first_address b = grind (arith, nat_tests) in
    rw (o, t) refl

-- the bytes of a word that was written
byte_of_word : (m : List ℕ) (i w : ℕ) → i + 3 < length m →
    (slice_index (with_word_from m i w) i ≡ w % 2 ^ 8)
    × (slice_index (with_word_from m i w) (i + 1) ≡ w / 2 ^ 8 % 2 ^ 8)
    × (slice_index (with_word_from m i w) (i + 2) ≡ w / 2 ^ 16 % 2 ^ 8)
    × (slice_index (with_word_from m i w) (i + 3) ≡ w / 2 ^ 24 % 2 ^ 8)
byte_of_word m i w within =
    (grind (arith, common_steps), grind (arith, common_steps), grind (arith, common_steps), grind (arith, common_steps))

-- a byte of memory, by its offset
byte_at-inside : (m : List ℕ) (a i x : ℕ)
    → first_address ≤ a → a - first_address ≡ i → i < length m → slice_index m i ≡ x
    → byte_at m a ≡ Ok x
unfolding byte_at
byte_at-inside m a i x least same within is = grind (arith, nat_tests)

-- a word that was written has its four bytes, the lowest first
pub byte_at-with_word : (m n : List ℕ) (a w : ℕ) → with_word m a w ≡ Ok n →
    (byte_at n (aligned a) ≡ Ok (w % 2 ^ 8))
    × (byte_at n (aligned a + 1) ≡ Ok (w / 2 ^ 8 % 2 ^ 8))
    × (byte_at n (aligned a + 2) ≡ Ok (w / 2 ^ 16 % 2 ^ 8))
    × (byte_at n (aligned a + 3) ≡ Ok (w / 2 ^ 24 % 2 ^ 8))
unfolding with_word
byte_at-with_word m n a w same =
    let p = written-is (holds_word m a) (with_word_from m (word_offset a) w) n same in
    let q = inside m a p.0 in
    let least : first_address ≤ a = q.0 in
    let within : word_offset a + 3 < length n = rw (p.1, length-with m (word_offset a) w) q.1 in
    let b = byte_of_word m (word_offset a) w q.1 in (
      byte_at-inside n (aligned a) (word_offset a) _ (omega arith) (omega arith) (omega arith) (rw p.1 b.0),
      byte_at-inside n (aligned a + 1) (word_offset a + 1) _ (omega arith) (omega arith) (omega arith) (rw p.1 b.1),
      byte_at-inside n (aligned a + 2) (word_offset a + 2) _ (omega arith) (omega arith) (omega arith) (rw p.1 b.2),
      byte_at-inside n (aligned a + 3) (word_offset a + 3) _ (omega arith) (omega arith) (omega arith) (rw p.1 b.3),
    )

-- a byte that was written is read, and every other byte stays
inside_byte : (m : List ℕ) (a : ℕ) → is_inside m a ≡ true → (first_address ≤ a) × (a - first_address < length m)
inside_byte m a same = (grind (arith, nat_tests), grind (arith, nat_tests))

-- a byte that is written keeps the length of memory
pub length-with_byte : (m n : List ℕ) (a x : ℕ) → with_byte m a x ≡ Ok n → length n ≡ length m
unfolding with_byte
length-with_byte m n a x same =
    let p = written-is (is_inside m a) (slice_set m (a - first_address) x) n same in
    ap length p.1 ∙ simp length-set

-- a word that is written keeps the length of memory
pub length-with_word : (m n : List ℕ) (a w : ℕ) → with_word m a w ≡ Ok n → length n ≡ length m
unfolding with_word
length-with_word m n a w same =
    let p = written-is (holds_word m a) (with_word_from m (word_offset a) w) n same in
    ap length p.1 ∙ length-with m (word_offset a) w

-- a byte that was written is read
pub byte_at-with_byte_same : (m n : List ℕ) (a x : ℕ) → with_byte m a x ≡ Ok n → byte_at n a ≡ Ok x
unfolding with_byte
byte_at-with_byte_same m n a x same =
    let p = written-is (is_inside m a) (slice_set m (a - first_address) x) n same in
    let q = inside_byte m a p.0 in
    let within : a - first_address < length n = rw (p.1, length-set m (a - first_address) x) q.1 in
    byte_at-inside n a (a - first_address) x q.0 refl within
    (rw p.1 (let least = q.1 in grind (arith, common_steps)))

-- a byte that was written leaves every other byte
pub byte_at-with_byte_other : (m n : List ℕ) (a b x : ℕ) → a ≢ b → with_byte m a x ≡ Ok n → byte_at n b ≡ byte_at m b
unfolding byte_at with_byte
byte_at-with_byte_other m n a b x apart same =
    let p = written-is (is_inside m a) (slice_set m (a - first_address) x) n same in
    let q = inside_byte m a p.0 in
    let stays : is_inside (slice_set m (a - first_address) x) b ≡ is_inside m b =
    ap (λ k. nat_le first_address b && nat_lt (b - first_address) k) (simp length-set) in
    rw (p.1, stays)
    (elsewhere (is_inside m b) _ _
    (λ t. let r = inside_byte m b t in
    get_or-set_other m (a - first_address) (b - first_address) x 0 (λ e. apart (omega arith))))

-- a word is not written where it can't be read
not_ok : {A : Type 0} (b : Bool) (x : A) (f : Fault) → cond b (Ok x) (Err OutsideMemory) ≡ Err f
    → (b ≡ false) × (f ≡ OutsideMemory)
not_ok true x f same = cc
not_ok false x f same = (refl, cc)

-- a word that can't be written can't be read, for the same fault
pub word_at-unwritten : (m : List ℕ) (a w : ℕ) (f : Fault) → with_word m a w ≡ Err f → word_at m a ≡ Err f
unfolding word_at with_word
word_at-unwritten m a w f same =
    let p = not_ok (holds_word m a) (with_word_from m (word_offset a) w) f same in
    rw (p.0, p.1) refl

-- a word that can't be read can't be written, for the same fault
pub with_word-unread : (m : List ℕ) (a w : ℕ) (f : Fault) → word_at m a ≡ Err f → with_word m a w ≡ Err f
unfolding word_at with_word
with_word-unread m a w f same =
    let p = not_ok (holds_word m a) (word_from m (word_offset a)) f same in
    rw (p.0, p.1) refl

-- and its fault is always the same one
pub word_at-fault : (m : List ℕ) (a : ℕ) (f : Fault) → word_at m a ≡ Err f → f ≡ OutsideMemory
unfolding word_at
word_at-fault m a f same = (not_ok (holds_word m a) (word_from m (word_offset a)) f same).1

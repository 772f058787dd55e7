-- Reads and writes of what is kept of memory are those of memory.
use Rattle.std.proofs.Common.{◌≡◌, ℕ, ◌+◌, ◌-◌, ◌/◌, ◌%◌, ◌^◌, ◌<◌, ◌≤◌, List, [], ◌∷◌, ◌++◌, Ok, length, take}
use Rattle.std.proofs.Common.{drop, replicate, slice_index, slice_set, inl, inr, refl, sym, ap, ◌∙◌, arith, length-set}
use Rattle.std.proofs.lemmas.List.{set-append_left, length-append, length-replicate, get_or-append_right}
use Rattle.std.proofs.lemmas.List.{get_or_append_left, get_or-replicate, append_assoc, replicate-append-replicate}
use Rattle.std.proofs.lemmas.List.{take-append-drop, take-append-le, ext_get_or, get_or-drop, length-drop}
use Rattle.std.proofs.lemmas.Bool.{cases_lt}
use Rattle.std.proofs.lemmas.Bool.Decides.{nat_tests}
use Rattle.node_memory.specs.Bytes.{word_at, with_word, with_word_from, word_from, word_offset}
use Rattle.node_memory.specs.Kept.{memory_of}

-- memory has its size
pub length_memory : (kept : List ℕ) (size : ℕ) → length kept ≤ size → length (memory_of kept size) ≡ size
length_memory kept size within =
    let added = length-append kept (replicate (size - length kept) 0) in
    let zeros : length (replicate (size - length kept) 0) ≡ size - length kept =
    length-replicate {A = ℕ} (size - length kept) 0 in
    omega (arith, added, zeros, within)

-- a byte that is kept is read from what is kept
pub kept_index : (kept : List ℕ) (size i : ℕ) → i < length kept
    → slice_index (memory_of kept size) i ≡ slice_index kept i
kept_index kept size i below = get_or_append_left kept (replicate (size - length kept) 0) 0 i below

-- a byte that isn't kept is 0
pub unkept_index : (kept : List ℕ) (size i : ℕ) → length kept ≤ i → i < size → slice_index (memory_of kept size) i ≡ 0
unkept_index kept size i above inside =
    get_or-append_right kept (replicate (size - length kept) 0) (length kept) i 0 refl above
    ∙ get_or-replicate (size - length kept) (i - length kept) 0 0 (omega (arith, above, inside))

-- a byte that is kept is set in what is kept
pub kept_set : (kept : List ℕ) (size i b : ℕ) → i < length kept
    → slice_set (memory_of kept size) i b ≡ memory_of (slice_set kept i b) size
kept_set kept size i b below =
    set-append_left kept (replicate (size - length kept) 0) i b below
    ∙ ap (λ n. slice_set kept i b ++ replicate (size - n) 0) (sym (length-set kept i b))

-- a word that is kept is read from what is kept
pub kept_word : (kept : List ℕ) (size i : ℕ) → i + 3 < length kept
    → word_from (memory_of kept size) i ≡ word_from kept i
kept_word kept size i below =
    rw (
      kept_index kept size i (omega (arith, below)),
      kept_index kept size (i + 1) (omega (arith, below)),
      kept_index kept size (i + 2) (omega (arith, below)),
      kept_index kept size (i + 3) below,
    )
    refl

-- a word that isn't kept is 0
pub unkept_word : (kept : List ℕ) (size i : ℕ) → length kept ≤ i → i + 3 < size → word_from (memory_of kept size) i ≡ 0
unkept_word kept size i above inside =
    rw (
      unkept_index kept size i above (omega (arith, inside)),
      unkept_index kept size (i + 1) (omega (arith, above)) (omega (arith, inside)),
      unkept_index kept size (i + 2) (omega (arith, above)) (omega (arith, inside)),
      unkept_index kept size (i + 3) (omega (arith, above)) inside,
    )
    refl

-- a word that is kept is set in what is kept
pub kept_word_set : (kept : List ℕ) (size i w : ℕ) → i + 3 < length kept
    → with_word_from (memory_of kept size) i w ≡ memory_of (with_word_from kept i w) size
kept_word_set kept size i w below =
    let b0 = w % 2 ^ 8 in
    let b1 = w / 2 ^ 8 % 2 ^ 8 in
    let b2 = w / 2 ^ 16 % 2 ^ 8 in
    let b3 = w / 2 ^ 24 % 2 ^ 8 in
    let k1 = slice_set kept i b0 in
    let k2 = slice_set k1 (i + 1) b1 in
    let k3 = slice_set k2 (i + 2) b2 in
    let n1 : length k1 ≡ length kept = length-set kept i b0 in
    let n2 : length k2 ≡ length kept = length-set k1 (i + 1) b1 ∙ n1 in
    let n3 : length k3 ≡ length kept = length-set k2 (i + 2) b2 ∙ n2 in
    ap (λ (m : List ℕ). slice_set (slice_set (slice_set m (i + 1) b1) (i + 2) b2) (i + 3) b3)
    (kept_set kept size i b0 (omega (arith, below)))
    ∙ ap (λ (m : List ℕ). slice_set (slice_set m (i + 2) b2) (i + 3) b3)
    (kept_set k1 size (i + 1) b1 (omega (arith, below, n1)))
    ∙ ap (λ (m : List ℕ). slice_set m (i + 3) b3) (kept_set k2 size (i + 2) b2 (omega (arith, below, n2)))
    ∙ kept_set k3 size (i + 3) b3 (omega (arith, below, n3))

-- a word goes where an address leads that lies in what is kept, by its offset, which is great if it lies below memory
pub stores : (kept : List ℕ) (size a w offset : ℕ)
    → (2147483648 ≤ a → offset ≡ a - 2147483648) → (a < 2147483648 → 65536 < offset)
    → length kept % 4 ≡ 0 → length kept ≤ size → size ≤ 65536 → offset < length kept
    → with_word (memory_of kept size) a w ≡ Ok (memory_of (with_word_from kept (offset - offset % 4) w) size)
unfolding with_word
stores kept size a w offset there great words within most below = elim (cases_lt a 2147483648) [
  | inl less ↦ let above = great less in absurd (omega (arith, above, within, most, below))
  | inr more ↦
      let whole = length_memory kept size within in
      let equal = there more in
      let place : word_offset a ≡ offset - offset % 4 = omega (arith, equal, more) in
      let written = kept_word_set kept size (word_offset a) w (omega (arith, place, words, below)) in
      rw (← place, ← written) (grind (arith, nat_tests, equal, more, words, within, most, below, whole))
]

-- a word comes from where an address leads that lies in what is kept, by the same offset
pub loads : (kept : List ℕ) (size a offset : ℕ)
    → (2147483648 ≤ a → offset ≡ a - 2147483648) → (a < 2147483648 → 65536 < offset)
    → length kept % 4 ≡ 0 → length kept ≤ size → size ≤ 65536 → offset < length kept
    → word_at (memory_of kept size) a ≡ Ok (word_from kept (offset - offset % 4))
unfolding word_at
loads kept size a offset there great words within most below = elim (cases_lt a 2147483648) [
  | inl less ↦ let above = great less in absurd (omega (arith, above, within, most, below))
  | inr more ↦
      let whole = length_memory kept size within in
      let equal = there more in
      let place : word_offset a ≡ offset - offset % 4 = omega (arith, equal, more) in
      let read = kept_word kept size (word_offset a) (omega (arith, place, words, below)) in
      rw (← place, ← read) (grind (arith, nat_tests, equal, more, words, within, most, below, whole))
]

-- one more byte that is kept, and is 0, changes no memory
pub one_more : (kept : List ℕ) (size : ℕ) → length kept < size → memory_of (kept ++ 0 ∷ []) size ≡ memory_of kept size
one_more kept size less =
    let added = length-append kept (0 ∷ []) in
    append_assoc kept (0 ∷ []) (replicate (size - length (kept ++ 0 ∷ [])) 0)
    ∙ ap (λ (zeros : List ℕ). kept ++ zeros)
    (replicate-append-replicate 1 (size - length (kept ++ 0 ∷ [])) 0
    ∙ ap (λ n. replicate n 0) (omega (arith, added, less)))

-- ---- two memories

-- memory whose bytes after a place are 0 is its bytes before it
cut : (kept : List ℕ) (size place : ℕ)
    → place ≤ length kept → length kept ≤ size → drop place kept ≡ replicate (length (drop place kept)) 0
    → memory_of kept size ≡ take place kept ++ replicate (size - place) 0
cut kept size place below within zeros =
    let rest = length-drop place kept in
    ap (λ (bytes : List ℕ). bytes ++ replicate (size - length kept) 0)
    (sym (take-append-drop place kept) ∙ ap (λ (bytes : List ℕ). take place kept ++ bytes) zeros)
    ∙ append_assoc (take place kept) (replicate (length (drop place kept)) 0) (replicate (size - length kept) 0)
    ∙ ap (λ (bytes : List ℕ). take place kept ++ bytes)
    (replicate-append-replicate (length (drop place kept)) (size - length kept) 0
    ∙ ap (λ n. replicate n 0) (omega (arith, rest, below, within)))

-- memories of one size are the same if they begin alike and are 0 after that
pub same_memory : (xs ys : List ℕ) (m n place : ℕ)
    → place ≤ length xs → place ≤ length ys → length xs ≤ m → length ys ≤ n → m ≡ n → take place xs ≡ take place ys
    → drop place xs ≡ replicate (length (drop place xs)) 0 → drop place ys ≡ replicate (length (drop place ys)) 0
    → memory_of xs m ≡ memory_of ys n
same_memory xs ys m n place left right x_within y_within size start x_zeros y_zeros =
    cut xs m place left x_within x_zeros
    ∙ ap (λ (bytes : List ℕ). bytes ++ replicate (m - place) 0) start
    ∙ ap (λ k. take place ys ++ replicate (k - place) 0) size
    ∙ sym (cut ys n place right y_within y_zeros)

-- the same memory has one size
pub same_size : (xs ys : List ℕ) (m n : ℕ) → length xs ≤ m → length ys ≤ n → memory_of xs m ≡ memory_of ys n → m ≡ n
same_size xs ys m n x_within y_within same =
    sym (length_memory xs m x_within) ∙ ap length same ∙ length_memory ys n y_within

-- the same memory begins alike in both, as far as both keep it
pub same_start : (xs ys : List ℕ) (m n place : ℕ)
    → place ≤ length xs → place ≤ length ys → memory_of xs m ≡ memory_of ys n
    → take place xs ≡ take place ys
same_start xs ys m n place left right same =
    sym (take-append-le place xs (replicate (m - length xs) 0) left) ∙ ap (take place) same
    ∙ take-append-le place ys (replicate (n - length ys) 0) right

-- what one of them keeps after the other's last byte is 0
pub same_rest : (xs ys : List ℕ) (m n place : ℕ)
    → (place < length xs → place ≡ length ys) → length xs ≤ m → length ys ≤ n → memory_of xs m ≡ memory_of ys n
    → drop place xs ≡ replicate (length (drop place xs)) 0
same_rest xs ys m n place last x_within y_within same =
    let rest = length-drop place xs in
    let size = same_size xs ys m n x_within y_within same in
    ext_get_or 0 (drop place xs) (replicate (length (drop place xs)) 0)
    (sym (length-replicate {A = ℕ} (length (drop place xs)) 0))
    (λ i less.
    let below : place + i < length xs = omega (arith, rest, less) in
    let end = last (omega (arith, below)) in
    get_or-drop place xs i 0
    ∙ sym (kept_index xs m (place + i) below)
    ∙ ap (λ (memory : List ℕ). slice_index memory (place + i)) same
    ∙ unkept_index ys n (place + i) (omega (arith, end)) (omega (arith, below, x_within, size))
    ∙ sym (get_or-replicate (length (drop place xs)) i 0 0 less))

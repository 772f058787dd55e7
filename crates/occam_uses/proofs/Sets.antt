-- Which numbers blocks of bits have: for the contracts of sets of numbers.
use Rattle.std.proofs.Common.{ℕ, zero, suc, ◌≡◌, ◌≢◌, ◌+◌, ◌-◌, ◌*◌, ◌/◌, ◌%◌, ◌^◌, ◌<◌, ◌≤◌, ◌==◌, ◌&&◌, ◌||◌, inl, inr, Bool, true, false, nat_lt, nat_le, List, [], ◌∷◌, ◌++◌, length, get_or, set, bit_and, bit_or, min, max, refl, sym, ap, ◌∙◌, arith, lit≤, w64}
use Rattle.std.specs.Int.{bit_at, trailing_zeros}
use Rattle.std.proofs.lemmas.Bool.{ltb-true, eqb-true, cases_lt, cases_eq, and_parts, ne_eqb, eq-eqb, lt-ltb, le-ltb}
use Rattle.std.proofs.lemmas.Bool.Decides.{nat_tests}
use Rattle.std.proofs.lemmas.List.{get_or_past, get_or_read, get_or-set_same, get_or-set_other}
use Rattle.std.proofs.lemmas.Nat.Bits.{bit_at-zero, bit_at-lt, bit_at_or, bit_at_and, bit_at-trailing_zeros, bit_at_mask_inside, bit_at_mask_below, bit_at_mask_above}
use Rattle.std.proofs.lemmas.Nat.{and_le_r}
use Rattle.std.proofs.Math.Nat.{one-le-pow}
use Rattle.occam_uses.specs.Uses.{is_between}
use Rattle.occam_uses.specs.Sets.{has_bit}

-- no blocks have no number
pub no_bits : (n : ℕ) → has_bit [] n ≡ false
unfolding has_bit
no_bits n = ap (λ x. x == 1) (bit_at-zero (n % 64))

-- no number past the blocks is in the set
pub past_bits : (blocks : List ℕ) (n : ℕ) → length blocks ≤ n / 64 → has_bit blocks n ≡ false
unfolding has_bit
past_bits blocks n past =
    ap (λ x. bit_at x (n % 64) == 1) (get_or_past blocks (n / 64) 0 past) ∙ ap (λ x. x == 1) (bit_at-zero (n % 64))

zero_after : (blocks : List ℕ) (k : ℕ) → get_or (blocks ++ 0 ∷ []) k 0 ≡ get_or blocks k 0
zero_after [] zero = refl
zero_after [] (suc k) = refl
zero_after (x ∷ blocks) zero = refl
zero_after (x ∷ blocks) (suc k) = zero_after blocks k

-- a block of zeros adds no number
pub zeros_added : (blocks : List ℕ) (n : ℕ) → has_bit (blocks ++ 0 ∷ []) n ≡ has_bit blocks n
unfolding has_bit
zeros_added blocks n = ap (λ x. bit_at x (n % 64) == 1) (zero_after blocks (n / 64))

mask_cases : (lo hi i : ℕ) → (bit_at (2 ^ hi - 2 ^ lo) i == 1) ≡ is_between lo hi i
mask_cases lo hi i =
    elim (cases_lt i lo) [
      | inl below ↦ ap (λ x. x == 1) (bit_at_mask_below lo hi i below) ∙ grind (arith, nat_tests)
      | inr from ↦
          elim (cases_lt i hi) [
            | inl inside ↦ ap (λ x. x == 1) (bit_at_mask_inside lo hi i from inside) ∙ grind (arith, nat_tests)
            | inr above ↦ ap (λ x. x == 1) (bit_at_mask_above lo hi i above) ∙ grind (arith, nat_tests)
          ]
    ]

-- the ones below one place less the ones below another are the bits between
pub mask_bits : (lo hi i : ℕ) → (bit_at (2 ^ hi - 1 - (2 ^ lo - 1)) i == 1) ≡ is_between lo hi i
mask_bits lo hi i =
    let low : 1 ≤ 2 ^ lo = one-le-pow lo 2 (lit≤ tt) in
    let e : 2 ^ hi - 1 - (2 ^ lo - 1) ≡ 2 ^ hi - 2 ^ lo = omega arith in
    ap (λ x. bit_at x i == 1) e ∙ mask_cases lo hi i

-- the numbers of a block, from its first on
pub block_between : (k first end i : ℕ) → i < 64
    → is_between (min (first - k * 64) 64) (min (end - k * 64) 64) i ≡ is_between first end (64 * k + i)
block_between k first end i small = grind (arith, nat_tests)

or_test : (x y : ℕ) → x < 2 → y < 2 → (max x y == 1) ≡ (x == 1 || y == 1)
or_test x y x_bit y_bit = grind (arith, nat_tests)

or_nothing : (b : Bool) → b ≡ (b || false)
or_nothing true = refl
or_nothing false = refl

-- a block gets more bits
pub bits_added : (blocks : List ℕ) (k m n : ℕ) → k < length blocks
    → has_bit (set blocks k (bit_or (get_or blocks k 0) m)) n
    ≡ (has_bit blocks n || ((n / 64 == k) && (bit_at m (n % 64) == 1)))
unfolding has_bit
bits_added blocks k m n within =
    elim (cases_eq (n / 64) k) [
      | inl here ↦
          let i = n % 64 in
          let block = get_or blocks k 0 in
          let there : get_or blocks (n / 64) 0 ≡ block = ap (λ j. get_or blocks j 0) here in
          ap (λ j. bit_at (get_or (set blocks k (bit_or block m)) j 0) i == 1) here
          ∙ ap (λ x. bit_at x i == 1) (get_or-set_same blocks k (bit_or block m) 0 within)
          ∙ ap (λ x. x == 1) (bit_at_or block m i)
          ∙ or_test (bit_at block i) (bit_at m i) (bit_at-lt block i) (bit_at-lt m i)
          ∙ ap (λ x. (bit_at x i == 1) || (bit_at m i == 1)) (sym there)
          ∙ ap (λ t. (bit_at (get_or blocks (n / 64) 0) i == 1) || (t && (bit_at m i == 1)))
          (sym (eq-eqb (n / 64) k here))
      | inr elsewhere ↦
          let i = n % 64 in
          let old = bit_at (get_or blocks (n / 64) 0) i == 1 in
          ap (λ x. bit_at x i == 1) (get_or-set_other blocks k (n / 64) (bit_or (get_or blocks k 0) m) 0 elsewhere)
          ∙ or_nothing old
          ∙ ap (λ t. old || (t && (bit_at m i == 1))) (sym (ne_eqb (n / 64) k elsewhere))
    ]

added_here : (old between : Bool) → ((old || (between && false)) || (true && between)) ≡ (old || (between && true))
added_here true between = refl
added_here false true = refl
added_here false false = refl

added_elsewhere : (old bit between before : Bool)
    → ((old || (between && before)) || (false && bit)) ≡ (old || (between && before))
added_elsewhere true bit between before = refl
added_elsewhere false bit true true = refl
added_elsewhere false bit true false = refl
added_elsewhere false bit false before = refl

-- a block gets its bits of the numbers that are added, after those before it
pub block_added : (blocks : List ℕ) (k m x n first end : ℕ) (old : Bool) → k < length blocks → x ≡ get_or blocks k x
    → ((i : ℕ) → i < 64 → (bit_at m i == 1) ≡ is_between first end (64 * k + i))
    → has_bit blocks n ≡ (old || (is_between first end n && nat_lt (n / 64) k))
    → has_bit (set blocks k (bit_or x m)) n ≡ (old || (is_between first end n && nat_lt (n / 64) (k + 1)))
block_added blocks k m x n first end old within read mask before =
    ap (λ y. has_bit (set blocks k (bit_or y m)) n) (get_or_read blocks k x within read 0)
    ∙ bits_added blocks k m n within
    ∙ elim (cases_eq (n / 64) k) [
      | inl here ↦
          let i = n % 64 in
          let same : 64 * k + i ≡ n = omega arith in
          let small : i < 64 = omega arith in
          let bit : (bit_at m i == 1) ≡ is_between first end n = mask i small ∙ ap (is_between first end) same in
          let none : nat_lt (n / 64) k ≡ false = le-ltb (n / 64) k (omega arith) in
          let one : nat_lt (n / 64) (k + 1) ≡ true = lt-ltb (n / 64) (k + 1) (omega arith) in
          rw (before, eq-eqb (n / 64) k here, bit, none, one) (added_here old (is_between first end n))
      | inr elsewhere ↦
          let same : nat_lt (n / 64) (k + 1) ≡ nat_lt (n / 64) k = grind (arith, nat_tests) in
          rw (before, ne_eqb (n / 64) k elsewhere, same)
          (added_elsewhere old (bit_at m (n % 64) == 1) (is_between first end n) (nat_lt (n / 64) k))
    ]

min_one : (x y : ℕ) → x < 2 → y < 2 → min x y ≡ 1 → (x ≡ 1) × (y ≡ 1)
min_one x y x_bit y_bit one = grind arith

-- a block that has a bit of a mask has a number
pub bit_met : (blocks : List ℕ) (k m x first end : ℕ) → k < length blocks → x ≡ get_or blocks k x
    → ((i : ℕ) → i < 64 → (bit_at m i == 1) ≡ is_between first end (64 * k + i)) → m < 2 ^ 64 → bit_and x m ≢ 0
    → (n : ℕ) × (is_between first end n ≡ true) × (has_bit blocks n ≡ true)
unfolding has_bit
bit_met blocks k m x first end within read mask fits some =
    let block = get_or blocks k 0 in
    let is : block ≡ x = sym (get_or_read blocks k x within read 0) in
    let low = bit_at-trailing_zeros w64 (bit_and x m) (omega arith) (omega (arith, and_le_r x m)) in
    let i = trailing_zeros w64 (bit_and x m) in
    let small : i < 64 = low.0 in
    let both = min_one (bit_at x i) (bit_at m i) (bit_at-lt x i) (bit_at-lt m i) (sym (bit_at_and x m i) ∙ low.1) in
    let quotient : (64 * k + i) / 64 ≡ k = omega arith in
    let rest : (64 * k + i) % 64 ≡ i = omega arith in (
      64 * k + i,
      sym (mask i small) ∙ ap (λ x. x == 1) both.1,
      ap (λ j. bit_at (get_or blocks j 0) ((64 * k + i) % 64) == 1) quotient ∙ ap (λ j. bit_at block j == 1) rest
          ∙ ap (λ y. bit_at y i == 1) is ∙ ap (λ x. x == 1) both.0,
    )

-- a block that has no bit of a mask has no number
pub bit_free : (blocks : List ℕ) (k m x first end n : ℕ) → k < length blocks → x ≡ get_or blocks k x
    → ((i : ℕ) → i < 64 → (bit_at m i == 1) ≡ is_between first end (64 * k + i)) → bit_and x m ≡ 0 → n / 64 ≡ k
    → is_between first end n ≡ true → has_bit blocks n ≡ false
unfolding has_bit
bit_free blocks k m x first end n within read mask none here between =
    let block = get_or blocks k 0 in
    let is : block ≡ x = sym (get_or_read blocks k x within read 0) in
    let i = n % 64 in
    let small : i < 64 = omega arith in
    let same : 64 * k + i ≡ n = omega arith in
    let one : bit_at m i ≡ 1 =
    eqb-true (bit_at m i) 1 (mask i small ∙ ap (is_between first end) same ∙ between) in
    let zero : min (bit_at x i) (bit_at m i) ≡ 0 =
    sym (bit_at_and x m i) ∙ ap (λ x. bit_at x i) none ∙ bit_at-zero i in
    let off : bit_at x i ≡ 0 = omega arith in
    ap (λ j. bit_at (get_or blocks j 0) i == 1) here ∙ ap (λ y. bit_at y i == 1) is ∙ ap (λ x. x == 1) off

-- a number between is in none of the blocks, if it is in none of those before the one at which the search ended
pub none_met : (blocks : List ℕ) (first end k to n : ℕ) → to ≡ min (end / 64 + 1) (length blocks) → to ≤ k
    → ((j : ℕ) → is_between first end j ≡ true → j / 64 < k → has_bit blocks j ≡ false)
    → is_between first end n ≡ true → has_bit blocks n ≡ false
none_met blocks first end k to n is past before between =
    elim (cases_lt (n / 64) k) [
      | inl early ↦ before n between early
      | inr late ↦
          let below : n < end = ltb-true n end (and_parts (nat_le first n) (nat_lt n end) between).1 in
          let bound : n / 64 ≤ end / 64 = omega arith in
          past_bits blocks n (omega arith)
    ]

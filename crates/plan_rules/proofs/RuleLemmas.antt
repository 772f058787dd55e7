-- Ranges of ports: their numbers stay within a machine's integers, for the functions that compute them.
use Rattle.std.proofs.Common.{◌≡◌, ◌↔◌, inl, inr, ◌<◌, ◌≤◌, ◌+◌, ◌++◌, ◌∙◌, ℕ, ℤ, w64, SFits, pos, ◌≤ℤ◌, ◌<ℤ◌, ◌+ℤ◌}
use Rattle.std.proofs.Common.{◌-ℤ◌, Bool, true, false, IsTrue, List, length, take, drop, get_or, All, ap, sym, refl, []}
use Rattle.std.proofs.Common.{◌∷◌, cond, filter, ◌||◌, arith}
use Rattle.std.specs.List.{list_any}
use Rattle.std.specs.Int.{int_min, int_max}
use lib.Signed.{lt_z}
use Rattle.std.proofs.lemmas.Int.{ints, clamps}
use Rattle.std.proofs.lemmas.Bool.{cases_Bool, false≢true}
use Rattle.std.proofs.lemmas.List.{take_more, take-append-drop}
use Rattle.std.proofs.lemmas.List.Elements.{All-head, All-tail, All-drop}
use Rattle.plan_rules.specs.declared.plan.RangePlan.{RangePlan}
use Rattle.plan_rules.specs.Separate.{IsRange, length_of, port_count}

-- Two ranges share no port exactly where the least of the lasts lies below the greatest of the firsts.
pub differs_from : (integer other_integer third_integer fourth_integer low high : ℤ) → low
    ≡ int_max integer third_integer → high ≡ int_min other_integer fourth_integer
    → IsTrue (lt_z high low) ↔ ((port : ℤ) → (integer ≤ℤ port) × (port ≤ℤ other_integer) → (third_integer ≤ℤ port)
    × (port ≤ℤ fourth_integer) → ⊥)
differs_from integer other_integer third_integer fourth_integer low high is_low is_high =
    let a_low : integer ≤ℤ low = omega (arith, ints, clamps) in
    let c_low : third_integer ≤ℤ low = omega (arith, ints, clamps) in
    let b_high : high ≤ℤ other_integer = omega (arith, ints, clamps) in
    let d_high : high ≤ℤ fourth_integer = omega (arith, ints, clamps) in (
      λ less port p q. grind (arith, ints, clamps),
      λ none. elim (cases_Bool (lt_z high low)) [
        | inl t ↦ t
        | inr f ↦
            let le : low ≤ℤ high = grind (arith, ints) in
            absurd (none low (a_low, omega (arith, ints)) (c_low, omega (arith, ints)))
      ],
    )

some_at : {X : Type 0} (here : Bool) (p : X → Bool) (x : X) (xs : List X)
    → IsTrue (list_any p xs) ↔ (1 ≤ length (filter p xs))
    → IsTrue (here || list_any p xs) ↔ (1 ≤ length (cond here (x ∷ filter p xs) (filter p xs)))
some_at true p x xs less = (λ _. omega arith, λ _. refl)
some_at false p x xs less = less

-- an element that passes the test
pub some_pass : {X : Type 0} (p : X → Bool) (xs : List X) → IsTrue (list_any p xs) ↔ (1 ≤ length (filter p xs))
some_pass p [] = (λ h. absurd (false≢true h), λ h. absurd (omega arith))
some_pass p (x ∷ xs) = some_at (p x) p x xs (some_pass p xs)

port_count-append : (rs ss : List RangePlan) → port_count (rs ++ ss) ≡ port_count rs +ℤ port_count ss
port_count-append [] ss = omega (arith, ints)
port_count-append (r ∷ rs) ss = let h = port_count-append rs ss in omega (arith, ints, h)

-- the ports of the ranges up to one more
pub count_more : (rs : List RangePlan) (i : ℕ) (range : RangePlan) → i < length rs
    → port_count (take (i + 1) rs) ≡ port_count (take i rs) +ℤ length_of (get_or rs i range)
count_more rs i range within =
    let h = port_count-append (take i rs) (get_or rs i range ∷ []) in
    rw (take_more rs i range within) (omega (arith, ints, h))

-- the number of ports of ranges isn't negative
pub count_least : (rs : List RangePlan) → All IsRange rs → pos 0 ≤ℤ port_count rs
count_least [] given = omega (arith, ints)
count_least (r ∷ rs) given =
    let here = All-head IsRange r rs given in
    let later = count_least rs (All-tail IsRange r rs given) in
    omega (arith, ints, here.0, here.1, here.2, later)

-- a port that a range holds, past those before it
pub port_within : (rs : List RangePlan) (i : ℕ) (range : RangePlan) (port left : ℤ) → All IsRange rs → i < length rs
    → port ≡ port_count (take i rs) +ℤ left → left <ℤ length_of (get_or rs i range) → port <ℤ port_count rs
port_within rs i range port left ranges within is less =
    let whole : port_count rs ≡ port_count (take (i + 1) rs) +ℤ port_count (drop (i + 1) rs) =
    ap port_count (sym (take-append-drop (i + 1) rs)) ∙ port_count-append (take (i + 1) rs) (drop (i + 1) rs) in
    let more = count_more rs i range within in
    let rest = count_least (drop (i + 1) rs) (All-drop IsRange (i + 1) rs ranges) in
    omega (arith, ints, whole, more, rest, is, less)

-- the next range's ports lie past those before it
pub port_past : (rs : List RangePlan) (i : ℕ) (range : RangePlan) (port left : ℤ) → i < length rs
    → port ≡ port_count (take i rs) +ℤ left → port ≡ port_count (take (i + 1) rs) +ℤ
    (left -ℤ length_of (get_or rs i range))
port_past rs i range port left within is =
    let more = count_more rs i range within in
    omega (arith, ints, more, is)

-- a range has one port at least
pub length_least : (rs : List RangePlan) (i : ℕ) (range : RangePlan) → All IsRange rs → i < length rs
    → pos 1 ≤ℤ length_of (get_or rs i range)
length_least rs i range ranges within =
    let h = ranges i range within in
    omega (arith, ints, h.0, h.1, h.2)

-- what is left of a number if a smaller one is taken away fits in 64 bits
pub fits_less : (integer other_integer : ℤ) → SFits w64 integer → pos 0 ≤ℤ other_integer → other_integer ≤ℤ integer
    → SFits w64 (integer -ℤ other_integer)
fits_less integer other_integer fits low high = grind (arith, ints)

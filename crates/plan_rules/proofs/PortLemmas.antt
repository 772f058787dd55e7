-- The physical ports of ranges that share no port: they are a numbering,
-- for the law `faultless_plans_are_separate` and for `port_count`.
use Rattle.std.proofs.Common.{◌≡◌, ◌≢◌, ◌<◌, ◌≤◌, ◌+◌, ◌-◌, ◌++◌, ◌∙◌, inl, inr, ℕ, zero, suc, ℤ, pos, unsigned_abs}
use Rattle.std.proofs.Common.{◌≤ℤ◌, List, [], ◌∷◌, Some, None, length, get_or, map, flat_map, replicate, All, AllPairs}
use Rattle.std.proofs.Common.{refl, ap, sym, subst, arith, length-append, eqb, true}
use Rattle.std.specs.List.{Contains, range_with_len, list_any}
use Rattle.std.proofs.lemmas.Int.{ints}
use Rattle.std.proofs.lemmas.Bool.{cases_lt, cases_Bool, false≢true}
use Rattle.std.proofs.lemmas.Bool.Decides.{Decides-eqb}
use Rattle.std.proofs.lemmas.List.{get_or_default}
use Rattle.std.proofs.lemmas.Option.{get_or_from_slice_get, slice_get_within}
use Rattle.std.proofs.lemmas.List.FromFn.{length-range_with_len, get_or-range_with_len}
use Rattle.std.proofs.lemmas.List.Concat.{flat_map-cons}
use Rattle.std.proofs.lemmas.List.Elements.{All-head, All-tail, All-cons, All-nil, All-contains}
use Rattle.std.proofs.lemmas.Map.Made.{IsDistinct-from_AllPairs}
use Rattle.std.proofs.lemmas.Map.Steps.{length-le_from_distinct_below}
use Rattle.crossbar.specs.Ranges.{ports_of, ranged_ports, IsOneToOne, IsNumbering, AreRanges, IsPortRange as IsPlace}
use Rattle.plan_rules.specs.declared.plan.RangePlan.{RangePlan}
use Rattle.plan_rules.specs.Separate.{IsRange, ShareNoPort, HasPort, length_of, port_count}
use Rattle.plan_rules.specs.Part.{port_range}
use Rattle.plan_rules.proofs.ListLemmas.{all_joined, pairs_append, pairs_head, pairs_tail, pairs_nil}

-- the physical ports of the ranges of a plan
abbrev pub own_ports : RangePlan → List ℕ
own_ports r = ports_of (port_range r)

-- the physical ports of a list of ranges
abbrev pub all_ports : List RangePlan → List ℕ
all_ports rs = flat_map own_ports rs

no_ports : (n : ℕ) → ranged_ports (replicate n None) ≡ []
no_ports zero = refl
no_ports (suc n) = no_ports n

-- the ports of a row of places are those of its ranges
pub ports_in_row : (rs : List RangePlan) (n : ℕ)
    → ranged_ports (map (λ r. Some (port_range r)) rs ++ replicate n None) ≡ all_ports rs
ports_in_row [] n = no_ports n
ports_in_row (r ∷ rs) n = ap (λ ps. own_ports r ++ ps) (ports_in_row rs n) ∙ sym (flat_map-cons own_ports r rs)

get_or_itself : {X : Type 0} (xs : List X) (k : ℕ) (d : X) → k < length xs → get_or xs k (get_or xs k d) ≡ get_or xs k d
get_or_itself xs k d less = get_or_default xs k (get_or xs k d) d less

-- an integer from 0 on is the number that it comes to without its sign
pub abs_is : (integer : ℤ) → pos 0 ≤ℤ integer → pos (unsigned_abs integer) ≡ integer
abs_is integer less = omega (arith, ints)

-- a port that a range lists is one of its own
pub own_port : (r : RangePlan) → IsRange r → All (λ p. HasPort r (pos p)) (own_ports r)
own_port r given k d less =
    let first = abs_is r.first given.0 in
    let last : pos (unsigned_abs r.last) ≡ r.last = abs_is r.last (omega (arith, ints, given.0, given.1)) in
    let len = length-range_with_len (unsigned_abs r.first) (unsigned_abs r.last + 1 - unsigned_abs r.first) in
    let at_k =
    get_or-range_with_len (unsigned_abs r.first) (unsigned_abs r.last + 1 - unsigned_abs r.first) k d
    (omega (arith, less, len)) in
    (omega (arith, ints, first, at_k), omega (arith, ints, first, last, at_k, less, len))

-- a range has as many ports as its ends say
pub length_own : (r : RangePlan) → IsRange r → pos (length (own_ports r)) ≡ length_of r
length_own r given =
    let first = abs_is r.first given.0 in
    let last : pos (unsigned_abs r.last) ≡ r.last = abs_is r.last (omega (arith, ints, given.0, given.1)) in
    let len = length-range_with_len (unsigned_abs r.first) (unsigned_abs r.last + 1 - unsigned_abs r.first) in
    omega (arith, ints, first, last, len, given.1)

-- ranges have as many ports as their ends say
pub length_all : (rs : List RangePlan) → All IsRange rs → pos (length (all_ports rs)) ≡ port_count rs
length_all [] given = refl
length_all (r ∷ rs) given =
    let here = length_own r (All-head IsRange r rs given) in
    let later = length_all rs (All-tail IsRange r rs given) in
    let whole = ap length (flat_map-cons own_ports r rs) ∙ length-append (own_ports r) (all_ports rs) in
    omega (arith, ints, here, later, whole)

increasing : (a n : ℕ) → AllPairs (λ x y. x ≢ y) (range_with_len a n)
increasing a n i j d less within same =
    let len = length-range_with_len a n in
    let at_i = get_or-range_with_len a n i d (omega (arith, len, less, within)) in
    let at_j = get_or-range_with_len a n j d (omega (arith, len, within)) in
    omega (arith, at_i, at_j, same, less)

-- the ports of two ranges that share none
across : (r s : RangePlan) → IsRange r → IsRange s → ShareNoPort r s
    → All (λ y. All (λ x. x ≢ y) (own_ports r)) (own_ports s)
across r s hr hs apart k d less j e below same =
    let in_s = own_port s hs k d less in
    let in_r = own_port r hr j e below in
    apart (pos (get_or (own_ports s) k d)) (subst (λ (p : ℕ). HasPort r (pos p)) same in_r) in_s

-- the ports of ranges that share none are distinct
pub ports_distinct : (rs : List RangePlan) → All IsRange rs → AllPairs ShareNoPort rs
    → AllPairs (λ x y. x ≢ y) (all_ports rs)
ports_distinct [] given apart = pairs_nil (λ x y. x ≢ y)
ports_distinct (r ∷ rs) given apart =
    let here = All-head IsRange r rs given in
    let later = All-tail IsRange r rs given in
    let new = pairs_head ShareNoPort r rs apart in
    rw (flat_map-cons own_ports r rs) (
    pairs_append (λ x y. x ≢ y) (own_ports r) (all_ports rs)
    (increasing (unsigned_abs r.first) (unsigned_abs r.last + 1 - unsigned_abs r.first))
    (ports_distinct rs later (pairs_tail ShareNoPort r rs apart))
    (all_joined (λ y. All (λ x. x ≢ y) (own_ports r)) own_ports rs
    (λ k d less. across r (get_or rs k d) here (later k d less) (new k d less)))
    )

-- the ports of ranges are below 32
pub ports_below : (rs : List RangePlan) → All IsRange rs → All (λ p. p < 32) (all_ports rs)
ports_below rs given =
    all_joined (λ p. p < 32) own_ports rs
    (λ k d less j e below. let own = own_port (get_or rs k d) (given k d less) j e below in
    let top = given k d less in
    omega (arith, ints, own.1, top.2))

-- a port of the ranges lies in one of them
pub port_in : (rs : List RangePlan) → All IsRange rs
    → All (λ p. (r : RangePlan) × Contains rs r × HasPort r (pos p)) (all_ports rs)
port_in rs given =
    all_joined (λ p. (r : RangePlan) × Contains rs r × HasPort r (pos p)) own_ports rs
    (λ k d less j e below.
    (get_or rs k d, (k, less, get_or_itself rs k d less), own_port (get_or rs k d) (given k d less) j e below))

any_below : (xs : List ℕ) (n q : ℕ) → All (λ x. x < n) xs → list_any (eqb q) xs ≡ true → q < n
any_below [] n q below same = absurd (false≢true same)
any_below (x ∷ xs) n q below equal = elim (cases_Bool (eqb q x)) [
  | inl t ↦
      let same : q ≡ x = (Decides-eqb q x).0 t in
      let here = All-head (λ x. x < n) x xs below in
      omega (arith, here, same)
  | inr f ↦ any_below xs n q (All-tail (λ x. x < n) x xs below) (rw f at equal)
]

-- distinct numbers below n are n at most
pub distinct_few : (xs : List ℕ) (n : ℕ) → AllPairs (λ x y. x ≢ y) xs → All (λ x. x < n) xs → length xs ≤ n
distinct_few xs n distinct below =
    length-le_from_distinct_below xs n (IsDistinct-from_AllPairs Decides-eqb xs distinct)
    (λ q h. any_below xs n q below h)

-- a list of distinct ports numbers them one to one
pub one_to_one : (xs : List ℕ) → AllPairs (λ x y. x ≢ y) xs → IsOneToOne xs
one_to_one xs distinct v w port a b =
    let at_v = get_or_from_slice_get xs v port port a in
    let at_w = get_or_from_slice_get xs w port port b in
    elim (cases_lt v w) [
      | inl less ↦ absurd (distinct v w port less (slice_get_within xs w port b) (at_v ∙ sym at_w))
      | inr more ↦ elim (cases_lt w v) [
        | inl less ↦ absurd (distinct w v port less (slice_get_within xs v port a) (at_w ∙ sym at_v))
        | inr same ↦ omega arith
      ]
    ]

-- each place of a row holds a range of the crossbar
places : (rs : List RangePlan) (n : ℕ) → All IsRange rs
    → All IsPlace (map (λ r. Some (port_range r)) rs ++ replicate n None)
places [] zero given = All-nil IsPlace
places [] (suc n) given = All-cons IsPlace None (replicate n None) tt (places [] n given)
places (r ∷ rs) n given =
    let here = All-head IsRange r rs given in
    let first = abs_is r.first here.0 in
    let last : pos (unsigned_abs r.last) ≡ r.last = abs_is r.last (omega (arith, ints, here.0, here.1)) in
    All-cons IsPlace (Some (port_range r)) (map (λ r. Some (port_range r)) rs ++ replicate n None)
    (omega (arith, ints, first, last, here.1), omega (arith, ints, last, here.2))
    (places rs n (All-tail IsRange r rs given))

-- the ports of ranges that share none, each with one number
pub numbering : (rs : List RangePlan) → All IsRange rs → AllPairs ShareNoPort rs → IsNumbering (all_ports rs)
numbering rs given apart =
    record { below = ports_below rs given; one_to_one = one_to_one (all_ports rs) (ports_distinct rs given apart) }

-- the ranges of a plan that share no port, with none after them, are ranges that a numbering may have
pub are_ranges : (rs : List RangePlan) (n : ℕ) → All IsRange rs → AllPairs ShareNoPort rs
    → AreRanges (map (λ r. Some (port_range r)) rs ++ replicate n None)
are_ranges rs n given apart = record {
  each = places rs n given;
  one_to_one = subst IsOneToOne (sym (ports_in_row rs n)) (one_to_one (all_ports rs) (ports_distinct rs given apart));
}

-- Two domains whose ranges share no port have none in common.
pub no_common : (rs ss : List RangePlan) → All IsRange rs → All IsRange ss → All (λ s. All (λ r. ShareNoPort r s) rs) ss
    → (port : ℕ) → Contains (all_ports rs) port → Contains (all_ports ss) port → ⊥
no_common rs ss hr hs apart port in_r in_s =
    let r =
    All-contains (λ p. (r : RangePlan) × Contains rs r × HasPort r (pos p)) (all_ports rs) port (port_in rs hr) in_r in
    let s =
    All-contains (λ p. (r : RangePlan) × Contains ss r × HasPort r (pos p)) (all_ports ss) port (port_in ss hs) in_s in
    All-contains (λ x. ShareNoPort x s.0) rs r.0 (All-contains (λ y. All (λ x. ShareNoPort x y) rs) ss s.0 apart s.1)
    r.1 (pos port) r.2 s.2

-- a separate domain has 1 to 32 ports
pub count_from : (rs : List RangePlan) → 1 ≤ length rs → All IsRange rs → AllPairs ShareNoPort rs
    → (1 ≤ length (all_ports rs)) × (length (all_ports rs) ≤ 32)
count_from [] some given apart = absurd (omega (arith, some))
count_from (r ∷ rs) some given apart =
    let here = All-head IsRange r rs given in
    let own = length_own r here in
    let whole = ap length (flat_map-cons own_ports r rs) ∙ length-append (own_ports r) (all_ports rs) in (
      omega (arith, ints, own, whole, here.1),
      distinct_few (all_ports (r ∷ rs)) 32 (ports_distinct (r ∷ rs) given apart) (ports_below (r ∷ rs) given),
    )

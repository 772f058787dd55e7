-- Distinct ports and their numbers: how a numbering grows port by port and range by range, for the contracts of
-- `Numbering` and for the law `rows_are_words_of_ports`.
use Rattle.std.proofs.Common.{◌≡◌, ◌≢◌, inl, inr, ℕ, zero, suc, ◌<◌, ◌≤◌, ◌+◌, true, false, Option, Some, None, List}
use Rattle.std.proofs.Common.{[], ◌∷◌, ◌++◌, length, take, drop, get_or, slice_get, slice_set, is_some, All, refl, sym}
use Rattle.std.proofs.Common.{ap, ◌∙◌, subst, arith, ◌==◌, eqb, replicate, ◌-◌, append_assoc}
use Rattle.std.proofs.lemmas.Bool.{cases_eq, cases_Bool, eq-eqb, eqb-true, ne_eqb}
use Rattle.std.proofs.lemmas.Option.{same_Some, none-some}
use Rattle.std.proofs.lemmas.List.{take_more_set, get_or_append_left}
use Rattle.std.proofs.Math.Seq.{get_or-append_seam}
use Rattle.std.proofs.lemmas.List.{length-append, length-take, length-set}
use Rattle.std.proofs.lemmas.Map.Steps.{length-le_from_distinct_below}
use Rattle.std.specs.List.{IsDistinct, AllByRecursion, list_any, range_with_len}
use Rattle.std.specs.Option.{option_map}
use Rattle.crossbar.specs.declared.range.PortRange.{PortRange}
use Rattle.crossbar.specs.Ranges.{IsOneToOne, IsNumbering, IsPortRange, AreRanges, ports_at, ranged_ports}
use Rattle.std.proofs.lemmas.List.{take-append-drop, take_more, append-nil}
use Rattle.std.proofs.lemmas.List.Elements.{All-append}
use Rattle.std.proofs.lemmas.List.FromFn.{length-range_with_len, get_or-range_with_len}
use Rattle.crossbar.specs.Numbers.{IsNumberTable}
use Rattle.crossbar.specs.Row.{number_among}

tail_one_to_one : (port : ℕ) (ports : List ℕ) → IsOneToOne (port ∷ ports) → IsOneToOne ports
tail_one_to_one port ports one v w p a b = let e = one (suc v) (suc w) p a b in omega arith

-- ---- the number of a port

counted_on : (output : Option ℕ) (v : ℕ) → option_map suc output ≡ Some v → (w : ℕ) × (output ≡ Some w) × (v ≡ suc w)
counted_on None v is = absurd (none-some v is)
counted_on (Some w) v is = (w, refl, sym (same_Some _ _ is))

some_still : (output : Option ℕ) → is_some (option_map suc output) ≡ is_some output
some_still None = refl
some_still (Some w) = refl

-- the number of the port that is at v is v, if no port occurs twice
pub number_among-port : (ports : List ℕ) (v port : ℕ) → IsOneToOne ports → slice_get ports v ≡ Some port
    → number_among ports port ≡ Some v
number_among-port [] v port one is = absurd (none-some port is)
number_among-port (first ∷ ports) zero port one is =
    let t : (first == port) ≡ true = eq-eqb _ _ (same_Some _ _ is) in rw t refl
number_among-port (first ∷ ports) (suc v) port one is =
    let t : (first == port) ≡ false =
    ne_eqb _ _ (λ (e : first ≡ port). let same = one 0 (suc v) port (ap (λ (p : ℕ). Some p) e) is in
    absurd (omega arith)) in
    rw t (ap (option_map suc) (number_among-port ports v port (tail_one_to_one first ports one) is))

-- a number that a port has is below the count of ports
pub number_among-below : (ports : List ℕ) (port v : ℕ) → number_among ports port ≡ Some v → v < length ports
number_among-below [] port v is = absurd (none-some v is)
number_among-below (first ∷ ports) port v is =
    elim (cases_Bool (first == port)) [
      | inl same ↦ let zero_is = same_Some _ _ (rw same at is) in omega arith
      | inr other ↦
          let next = counted_on (number_among ports port) v (rw other at is) in
          let below = number_among-below ports port next.0 next.1 in
          omega (arith, next.2)
    ]

-- a port that is among the ports has a number
pub number_among-some : (ports : List ℕ) (port k : ℕ) → slice_get ports k ≡ Some port
    → is_some (number_among ports port) ≡ true
number_among-some [] port k is = absurd (none-some port is)
number_among-some (first ∷ ports) port zero is =
    let t : (first == port) ≡ true = eq-eqb _ _ (same_Some _ _ is) in rw t refl
number_among-some (first ∷ ports) port (suc k) is =
    elim (cases_Bool (first == port)) [
      | inl same ↦ rw same refl
      | inr other ↦ rw other (some_still (number_among ports port) ∙ number_among-some ports port k is)
    ]

-- the port whose number is v is at v
pub number_among-get : (ports : List ℕ) (port v : ℕ) → number_among ports port ≡ Some v → slice_get ports v ≡ Some port
number_among-get [] port v is = absurd (none-some v is)
number_among-get (first ∷ ports) port v is =
    elim (cases_Bool (first == port)) [
      | inl same ↦
          let zero_is = same_Some _ _ (rw same at is) in
          ap (slice_get (first ∷ ports)) (sym zero_is) ∙ ap (λ (p : ℕ). Some p) (eqb-true first port same)
      | inr other ↦
          let next = counted_on (number_among ports port) v (rw other at is) in
          ap (slice_get (first ∷ ports)) next.2 ∙ number_among-get ports port next.0 next.1
    ]

-- a port from a bound on has no number among ports that are all below it
pub number_among-past : (ports : List ℕ) (most port : ℕ) → All (λ p. p < most) ports → most ≤ port
    → number_among ports port ≡ None
number_among-past [] most port below past = refl
number_among-past (first ∷ ports) most port below past =
    let t : (first == port) ≡ false =
    ne_eqb _ _ (λ (e : first ≡ port). let l = below 0 0 (omega arith) in absurd (omega arith)) in
    rw t (ap (option_map suc) (number_among-past ports most port (λ k d l. below (suc k) d (omega arith)) past))

-- ---- one more port

number_among-other : (ports : List ℕ) (last port : ℕ) → last ≢ port
    → number_among (ports ++ last ∷ []) port ≡ number_among ports port
number_among-other [] last port ne = let t : (last == port) ≡ false = ne_eqb _ _ ne in rw t refl
number_among-other (first ∷ ports) last port ne = rw (number_among-other ports last port ne) refl

number_among-last : (ports : List ℕ) (last : ℕ) → number_among ports last ≡ None
    → number_among (ports ++ last ∷ []) last ≡ Some (length ports)
number_among-last [] last none = let t : (last == last) ≡ true = eq-eqb _ _ refl in rw t refl
number_among-last (first ∷ ports) last none =
    elim (cases_Bool (first == last)) [
      | inl same ↦ let never : Some 0 ≡ None = rw same at none in absurd (none-some 0 (sym never))
      | inr other ↦
          let still = none_still (number_among ports last) (rw other at none) in
          rw (other, number_among-last ports last still) refl
    ]
  where
    none_still : (o : Option ℕ) → option_map suc o ≡ None → o ≡ None
    none_still None e = refl
    none_still (Some v) e = absurd (none-some (suc v) (sym e))

get_front : (ports more : List ℕ) (v port : ℕ) → slice_get ports v ≡ Some port → slice_get (ports ++ more) v ≡ Some port
get_front [] more v port is = absurd (none-some port is)
get_front (first ∷ ports) more zero port is = is
get_front (first ∷ ports) more (suc v) port is = get_front ports more v port is

get_last : (ports more : List ℕ) (last : ℕ) → slice_get (ports ++ last ∷ more) (length ports) ≡ Some last
get_last [] more last = refl
get_last (first ∷ ports) more last = get_last ports more last

-- the last of distinct ports is none of those before it
absent : (ports : List ℕ) (last : ℕ) → IsOneToOne (ports ++ last ∷ []) → number_among ports last ≡ None
absent ports last one = by_number (number_among ports last) refl
  where
    by_number : (o : Option ℕ) → number_among ports last ≡ o → o ≡ None
    by_number None is = refl
    by_number (Some v) is =
        let here = get_front ports (last ∷ []) v last (number_among-get ports last v is) in
        let same = one v (length ports) last here (get_last ports [] last) in
        let below = number_among-below ports last v is in
        absurd (omega arith)

one_to_one_front : (ports more : List ℕ) → IsOneToOne (ports ++ more) → IsOneToOne ports
one_to_one_front ports more one v w port a b =
    one v w port (get_front ports more v port a) (get_front ports more w port b)

-- the first ports of a numbering are a numbering
pub numbering_front : (ports more : List ℕ) → IsNumbering (ports ++ more) → IsNumbering ports
numbering_front ports more given = record {
  below =
      λ k d l.
      subst (λ (p : ℕ). p < 32) (get_or_append_left ports more d k l)
      (given.below k d (let e = length-append ports more in omega arith));
  one_to_one = one_to_one_front ports more given.one_to_one;
}

-- ---- distinct ports are at most 32

apart_from : (first : ℕ) (ports : List ℕ) → IsOneToOne (first ∷ ports) → AllByRecursion (λ y. eqb first y ≡ false) ports
apart_from first [] one = tt
apart_from first (port ∷ ports) one = (
  ne_eqb first port
      (λ (e : first ≡ port). let same = one 0 1 port (ap (λ (p : ℕ). Some p) e) refl in absurd (omega arith)),
  apart_from first ports (λ v w p a b. skip v w p a b),
)
  where
    skip : (v w p : ℕ) → slice_get (first ∷ ports) v ≡ Some p → slice_get (first ∷ ports) w ≡ Some p → v ≡ w
    skip zero zero p a b = refl
    skip zero (suc w) p a b = let e = one zero (suc (suc w)) p a b in absurd (omega arith)
    skip (suc v) zero p a b = let e = one (suc (suc v)) zero p a b in absurd (omega arith)
    skip (suc v) (suc w) p a b = let e = one (suc (suc v)) (suc (suc w)) p a b in omega arith

distinct : (ports : List ℕ) → IsOneToOne ports → IsDistinct eqb ports
unfolding IsDistinct
distinct [] one = tt
distinct (first ∷ ports) one = (apart_from first ports one, distinct ports (tail_one_to_one first ports one))

found_below : (ports : List ℕ) (q : ℕ) → All (λ p. p < 32) ports → list_any (eqb q) ports ≡ true → q < 32
found_below [] q below found = absurd (cc)
found_below (first ∷ ports) q below found =
    elim (cases_Bool (eqb q first)) [
      | inl same ↦ let e = eqb-true q first same in let l = below 0 0 (omega arith) in omega arith
      | inr other ↦ found_below ports q (λ k d l. below (suc k) d (omega arith)) (rw other at found)
    ]

-- a numbering has 32 ports at most, since they are distinct and below 32
pub at-most-32-ports : (ports : List ℕ) → IsNumbering ports → length ports ≤ 32
at-most-32-ports ports given =
    length-le_from_distinct_below ports 32 (distinct ports given.one_to_one) (λ q. found_below ports q given.below)

-- ---- a numbering kept both ways

get_set_same : {X : Type 0} (xs : List X) (i : ℕ) (x : X) → i < length xs → slice_get (slice_set xs i x) i ≡ Some x
get_set_same [] i x less = absurd (omega arith)
get_set_same (y ∷ xs) zero x less = refl
get_set_same (y ∷ xs) (suc i) x less = get_set_same xs i x (omega arith)

get_set_other : {X : Type 0} (xs : List X) (i j : ℕ) (x : X) → j ≢ i → slice_get (slice_set xs i x) j ≡ slice_get xs j
get_set_other [] i j x ne = refl
get_set_other (y ∷ xs) zero zero x ne = absurd (ne refl)
get_set_other (y ∷ xs) zero (suc j) x ne = refl
get_set_other (y ∷ xs) (suc i) zero x ne = refl
get_set_other (y ∷ xs) (suc i) (suc j) x ne = get_set_other xs i j x (λ e. ne (ap suc e))

nothing_yet : (n port : ℕ) → port < n → slice_get (replicate n (let none : Option ℕ = None in none)) port ≡ Some None
nothing_yet zero port less = absurd (omega arith)
nothing_yet (suc n) zero less = refl
nothing_yet (suc n) (suc port) less = nothing_yet n port (omega arith)

-- the empty list of ports is a numbering
pub no_numbering : IsNumbering []
no_numbering = record { below = λ k d l. absurd (omega arith); one_to_one = λ v w port a b. absurd (none-some port a) }

-- a table of 32 places without numbers holds no port
pub empty_table : (ports : List ℕ) → length ports ≡ 32 → IsNumberTable ports (replicate 32 None) 0
empty_table ports room = record {
  ports_room = room;
  numbers_room = refl;
  few = omega arith;
  numbering = no_numbering;
  inverse = λ port h. nothing_yet 32 port h;
}

length-first : (ports : List ℕ) (count : ℕ) → length ports ≡ 32 → count ≤ 32 → length (take count ports) ≡ count
length-first ports count room less = length-take count ports ∙ omega arith

-- a table has room for a port with which its ports are still a numbering
pub room_for : (ports : List ℕ) (numbers : List (Option ℕ)) (count port : ℕ)
    → IsNumberTable ports numbers count → IsNumbering (take count ports ++ port ∷ [])
    → count < 32
room_for ports numbers count port given holds =
    omega (
      arith,
      at-most-32-ports _ holds,
      length-append (take count ports) (port ∷ []),
      length-first ports count given.ports_room given.few,
    )

-- a port with which the ports are still a numbering is below 32
pub port_below : (ports : List ℕ) (port : ℕ) → IsNumbering (ports ++ port ∷ []) → port < 32
port_below ports port given =
    subst (λ (p : ℕ). p < 32) (get_or-append_seam ports port [] port)
    (given.below (length ports) port (omega (arith, length-append ports (port ∷ []))))

-- the first ports of the table once another is stored after them: those from before and the other
pub pushed : (ports : List ℕ) (numbers : List (Option ℕ)) (count port : ℕ)
    → IsNumberTable ports numbers count → IsNumbering (take count ports ++ port ∷ [])
    → take (count + 1) (slice_set ports count port) ≡ take count ports ++ port ∷ []
pushed ports numbers count port given holds =
    take_more_set ports count port (omega (arith, room_for ports numbers count port given holds, given.ports_room))

-- a table stays one if the next port is stored, and its count as its number
pub table_pushed : (ports : List ℕ) (numbers : List (Option ℕ)) (count port : ℕ) → IsNumberTable ports numbers count
    → IsNumbering (take count ports ++ port ∷ [])
    → IsNumberTable (slice_set ports count port) (slice_set numbers port (Some count)) (count + 1)
table_pushed ports numbers count port given holds = record {
  ports_room = length-set ports count port ∙ given.ports_room;
  numbers_room = length-set numbers port (Some count) ∙ given.numbers_room;
  few = omega (arith, room_for ports numbers count port given holds);
  numbering = subst IsNumbering (sym (pushed ports numbers count port given holds)) holds;
  inverse = λ q below.
      let front = pushed ports numbers count port given holds in
      elim (cases_eq port q) [
        | inl e ↦
            let there : slice_get (slice_set numbers port (Some count)) q ≡ Some (Some count) =
            ap (slice_get (slice_set numbers port (Some count))) (sym e)
            ∙ get_set_same numbers port (Some count)
            (omega (arith, given.numbers_room, port_below (take count ports) port holds)) in
            let number : number_among (take count ports ++ port ∷ []) q ≡ Some count =
            ap (number_among (take count ports ++ port ∷ [])) (sym e)
            ∙ number_among-last (take count ports) port (absent (take count ports) port holds.one_to_one)
            ∙ ap (λ (n : ℕ). Some n) (length-first ports count given.ports_room given.few) in
            there ∙ ap (λ (o : Option ℕ). Some o) (sym number ∙ sym (ap (λ ps. number_among ps q) front))
        | inr ne ↦
            get_set_other numbers port q (Some count) (λ (e : q ≡ port). ne (sym e)) ∙ given.inverse q below
            ∙ ap (λ (o : Option ℕ). Some o)
            (sym (number_among-other (take count ports) port q ne) ∙ sym (ap (λ ps. number_among ps q) front))
      ];
}

-- ports that are equal to others are a numbering with more after them, if the others are
pub as_seen : (ports seen more : List ℕ) → ports ≡ seen → IsNumbering (seen ++ more) → IsNumbering (ports ++ more)
as_seen ports seen more is given = subst (λ (ps : List ℕ). IsNumbering (ps ++ more)) (sym is) given

-- a port from 32 on has no number
pub no_number_past : (ports : List ℕ) (numbers : List (Option ℕ)) (count port : ℕ) (seen : List ℕ)
    → take count ports ≡ seen → IsNumberTable ports numbers count → 32 ≤ port
    → None ≡ number_among seen port
no_number_past ports numbers count port seen is given past =
    sym (ap (λ ps. number_among ps port) (sym is) ∙ number_among-past (take count ports) 32 port
    given.numbering.below past)

-- if the code stores the next port, and its count as its number, the table holds one port more
pub table_pushed_at : (ports : List ℕ) (numbers : List (Option ℕ)) (count port at number : ℕ) (seen : List ℕ)
    → take count ports ≡ seen → at ≡ count → number ≡ port → IsNumberTable ports numbers count
    → IsNumbering (seen ++ port ∷ [])
    → IsNumberTable (slice_set ports at port) (slice_set numbers number (Some count)) (count + 1)
    × (take (count + 1) (slice_set ports at port) ≡ seen ++ port ∷ [])
table_pushed_at ports numbers count port at number seen is at_is number_is given holds =
    let here = as_seen (take count ports) seen (port ∷ []) is holds in (
      subst (λ (a : ℕ). IsNumberTable (slice_set ports a port) (slice_set numbers number (Some count)) (count + 1))
          (sym at_is)
          (subst (λ (n : ℕ). IsNumberTable (slice_set ports count port) (slice_set numbers n (Some count)) (count + 1))
          (sym number_is) (table_pushed ports numbers count port given here)),
      ap (λ (a : ℕ). take (count + 1) (slice_set ports a port)) at_is ∙ pushed ports numbers count port given here
          ∙ ap (λ (ps : List ℕ). ps ++ port ∷ []) is,
    )

-- ---- the ports of a range, one by one

range_more : (first i : ℕ) → range_with_len first (i + 1) ≡ range_with_len first i ++ (first + i) ∷ []
range_more first i =
    subst (λ (n : ℕ). range_with_len first n ≡ range_with_len first i ++ (first + i) ∷ [])
    (let e : suc i ≡ i + 1 = omega arith in e) (one_on first i)
  where
    one_on : (first i : ℕ) → range_with_len first (suc i) ≡ range_with_len first i ++ (first + i) ∷ []
    one_on first zero = ap (λ (p : ℕ). p ∷ []) (let e : first ≡ first + 0 = omega arith in e)
    one_on first (suc i) =
        ap (λ ps. first ∷ ps) (one_on (first + 1) i)
        ∙ ap (λ (p : ℕ). first ∷ (range_with_len (first + 1) i ++ p ∷ []))
        (let e : first + 1 + i ≡ first + suc i = omega arith in e)

range_split : (first i j n : ℕ) → i + j ≡ n
    → range_with_len first n ≡ range_with_len first i ++ range_with_len (first + i) j
range_split first zero j n same =
    ap (range_with_len first) (let e : n ≡ j = omega arith in e)
    ∙ ap (λ (p : ℕ). range_with_len p j) (let e : first ≡ first + 0 = omega arith in e)
range_split first (suc i) j zero same = absurd (omega arith)
range_split first (suc i) j (suc n) same =
    ap (λ ps. first ∷ ps) (range_split (first + 1) i j n (omega arith))
    ∙ ap (λ (p : ℕ). first ∷ (range_with_len (first + 1) i ++ range_with_len p j))
    (let e : first + 1 + i ≡ first + suc i = omega arith in e)

-- before the first port of a range is appended, the ports are those from before
pub none_yet : (ports : List ℕ) (first : ℕ) → ports ≡ ports ++ range_with_len first (first - first)
none_yet ports first =
    let none : first - first ≡ 0 = omega arith in
    sym (append-nil ports) ∙ ap (λ (n : ℕ). ports ++ range_with_len first n) (sym none)

-- once the last port of a range is appended, the ports are those from before and the whole range
pub all_ports : (ports now : List ℕ) (first last port : ℕ)
    → (first ≤ port) × (port ≤ last + 1) → last + 1 ≤ port → now ≡ ports ++ range_with_len first (port - first)
    → now ≡ ports ++ range_with_len first (last + 1 - first)
all_ports ports now first last port within past is =
    let (from, to) = within in
    let all : port - first ≡ last + 1 - first = omega (arith, from, to) in
    is ∙ ap (λ (n : ℕ). ports ++ range_with_len first n) all

-- if the ports with a whole range are a numbering, they are one with each next port of the range
pub one_more : (ports now : List ℕ) (first n port : ℕ)
    → IsNumbering (ports ++ range_with_len first n) → first ≤ port → port < first + n
    → now ≡ ports ++ range_with_len first (port - first)
    → IsNumbering (now ++ port ∷ [])
one_more ports now first n port given from to is =
    let i = port - first in
    let at : first + i ≡ port = omega arith in
    let split = range_split first (i + 1) (n - (i + 1)) n (omega arith) in
    let front = range_more first i ∙ ap (λ (p : ℕ). range_with_len first i ++ p ∷ []) at in
    let whole : ports ++ range_with_len first n
    ≡ (ports ++ (range_with_len first i ++ port ∷ [])) ++ range_with_len (first + (i + 1)) (n - (i + 1)) =
    ap (λ ps. ports ++ ps) (split ∙ ap (λ ps. ps ++ range_with_len (first + (i + 1)) (n - (i + 1))) front)
    ∙ sym (append_assoc ports _ _) in
    let part = numbering_front (ports ++ (range_with_len first i ++ port ∷ [])) _ (subst IsNumbering whole given) in
    subst IsNumbering (sym (append_assoc ports _ _) ∙ ap (λ ps. ps ++ port ∷ []) (sym is)) part

-- the ports up to the next port of the range, once it is appended
pub one_appended : (ports now next : List ℕ) (first port : ℕ)
    → first ≤ port → now ≡ ports ++ range_with_len first (port - first) → next ≡ now ++ port ∷ []
    → next ≡ ports ++ range_with_len first (port + 1 - first)
one_appended ports now next first port from is more =
    let i = port - first in
    let at : first + i ≡ port = omega arith in
    let n : i + 1 ≡ port + 1 - first = omega arith in
    more ∙ ap (λ ps. ps ++ port ∷ []) is ∙ append_assoc ports _ _
    ∙ ap (λ ps. ports ++ ps)
    (ap (λ (p : ℕ). range_with_len first i ++ p ∷ []) (sym at) ∙ sym (range_more first i) ∙ ap (range_with_len first) n)

-- ---- the ports of a row of ranges, place by place

ranged_ports-append : (ranges more : List (Option PortRange))
    → ranged_ports (ranges ++ more) ≡ ranged_ports ranges ++ ranged_ports more
ranged_ports-append [] more = refl
ranged_ports-append (place ∷ ranges) more =
    ap (λ ps. ports_at place ++ ps) (ranged_ports-append ranges more)
    ∙ sym (append_assoc (ports_at place) (ranged_ports ranges) (ranged_ports more))

below_of : (place : Option PortRange) → IsPortRange place → All (λ p. p < 32) (ports_at place)
below_of None given k d l = absurd (omega arith)
below_of (Some range) given k d l =
    let inside : k < range.last + 1 - range.first =
    omega (arith, length-range_with_len range.first (range.last + 1 - range.first)) in
    let at = get_or-range_with_len range.first (range.last + 1 - range.first) k d inside in
    let (from, to) = given in
    omega (arith, from, to)

ranges_below : (ranges : List (Option PortRange)) → All IsPortRange ranges → All (λ p. p < 32) (ranged_ports ranges)
ranges_below [] given = λ k d l. absurd (omega arith)
ranges_below (place ∷ ranges) given =
    All-append (λ p. p < 32) (ports_at place) (ranged_ports ranges) (below_of place (given 0 None (omega arith)))
    (ranges_below ranges (λ k d l. given (suc k) d (omega arith)))

-- the ports of ranges that may be a domain's are a numbering
pub numbering_in : (ranges : List (Option PortRange)) → AreRanges ranges → IsNumbering (ranged_ports ranges)
numbering_in ranges given = record { below = ranges_below ranges given.each; one_to_one = given.one_to_one }

ranged_ports-more : (ranges : List (Option PortRange)) (i : ℕ) (range : Option PortRange) → i < length ranges
    → ranged_ports (take (i + 1) ranges) ≡ ranged_ports (take i ranges) ++ ports_at (get_or ranges i range)
ranged_ports-more ranges i range less =
    ap ranged_ports (take_more ranges i range less) ∙ ranged_ports-append (take i ranges) (get_or ranges i range ∷ [])
    ∙ ap (λ ps. ranged_ports (take i ranges) ++ ps) (append-nil (ports_at (get_or ranges i range)))

-- the next place shares no port with those before it
pub next_place : (ranges : List (Option PortRange)) (now : List ℕ) (i : ℕ) (range : Option PortRange)
    → AreRanges ranges → i < length ranges → now ≡ ranged_ports (take i ranges)
    → IsNumbering (now ++ ports_at (get_or ranges i range))
next_place ranges now i range given less is =
    let whole : ranged_ports ranges ≡ (now ++ ports_at (get_or ranges i range)) ++ ranged_ports (drop (i + 1) ranges) =
    ap ranged_ports (sym (take-append-drop (i + 1) ranges))
    ∙ ranged_ports-append (take (i + 1) ranges) (drop (i + 1) ranges)
    ∙ ap (λ ps. ps ++ ranged_ports (drop (i + 1) ranges))
    (ranged_ports-more ranges i range less ∙ ap (λ ps. ps ++ ports_at (get_or ranges i range)) (sym is)) in
    numbering_front _ _ (subst IsNumbering whole (numbering_in ranges given))

-- the ports of one range more, once its ports are appended
pub place_appended : (ranges : List (Option PortRange)) (now next : List ℕ) (i : ℕ) (range : Option PortRange)
    → i < length ranges → now ≡ ranged_ports (take i ranges) → next ≡ now ++ ports_at (get_or ranges i range)
    → next ≡ ranged_ports (take (i + 1) ranges)
place_appended ranges now next i range less is more =
    more ∙ ap (λ ps. ps ++ ports_at (get_or ranges i range)) is ∙ sym (ranged_ports-more ranges i range less)

-- When uses clash with uses that were marked, and when lists of uses are apart: for the contracts of the search for a
-- clash, and for the law of uses that are apart.
use Rattle.std.proofs.Common.{ℕ, ◌≡◌, ◌<◌, ◌+◌, ◌&&◌, ◌||◌, get_or, length, take, not, Bool, true, false, nat_lt, List, [], ◌∷◌, ◌++◌, min, max, refl, sym, ap, ◌∙◌, inl, inr, arith}
use Rattle.std.specs.List.{list_any}
use Rattle.std.proofs.lemmas.Bool.{and_parts, and_from, or_parts, or_from, or_cases, or_left, or_right, false_from_ne_true, both_ways, not-true, false≢true}
use Rattle.std.proofs.lemmas.Bool.Decides.{nat_tests}
use Rattle.std.proofs.lemmas.List.Folds.{list_any-append, list_all-append, list_all_at, list_all_more}
use Rattle.occam_uses.specs.declared.marks.UsageMarks.{UsageMarks}
use Rattle.occam_uses.specs.declared.usage.Usage.{Usage}
use Rattle.occam_uses.specs.declared.usage.UsageWay.{UsageWay}
use Rattle.occam_uses.specs.declared.usage.UsageWay.TheVariants.{Changes, Reads, Sends, Receives}
use Rattle.occam_uses.specs.Uses.{are_clashing_ways, is_clash, are_apart, is_between, is_same_way, uses_number, has_usage}
use Rattle.occam_uses.specs.Sets.{has_number, is_taken, AreMarksOf}

-- a use of a number in a way that clashes with another
abbrev takes : UsageWay → ℕ → Usage → Bool
takes way n a = are_clashing_ways a.way way && is_between a.first a.end n

ways_of_change : (way : UsageWay) (b : Bool)
    → ((is_same_way way Changes && b) || (is_same_way way Reads && b)) ≡ (are_clashing_ways way Changes && b)
ways_of_change Changes true = refl
ways_of_change Changes false = refl
ways_of_change Reads b = refl
ways_of_change Sends b = refl
ways_of_change Receives b = refl

ways_of_read : (way : UsageWay) → is_same_way way Changes ≡ are_clashing_ways way Reads
ways_of_read Changes = refl
ways_of_read Reads = refl
ways_of_read Sends = refl
ways_of_read Receives = refl

ways_of_send : (way : UsageWay) → is_same_way way Sends ≡ are_clashing_ways way Sends
ways_of_send Changes = refl
ways_of_send Reads = refl
ways_of_send Sends = refl
ways_of_send Receives = refl

ways_of_receive : (way : UsageWay) → is_same_way way Receives ≡ are_clashing_ways way Receives
ways_of_receive Changes = refl
ways_of_receive Reads = refl
ways_of_receive Sends = refl
ways_of_receive Receives = refl

or_both : (first second third fourth : Bool)
    → ((first || second) || (third || fourth)) ≡ ((first || third) || (second || fourth))
or_both true second third fourth = refl
or_both false true true fourth = refl
or_both false true false fourth = refl
or_both false false third fourth = refl

any_or : {X : Type 0} (p q both : X → Bool) → ((x : X) → (p x || q x) ≡ both x) → (xs : List X)
    → (list_any p xs || list_any q xs) ≡ list_any both xs
any_or p q both each [] = refl
any_or p q both each (x ∷ xs) =
    or_both (p x) (list_any p xs) (q x) (list_any q xs)
    ∙ ap (λ t. t || (list_any p xs || list_any q xs)) (each x) ∙ ap (λ t. both x || t) (any_or p q both each xs)

any_same : {X : Type 0} (p q : X → Bool) → ((x : X) → p x ≡ q x) → (xs : List X) → list_any p xs ≡ list_any q xs
any_same p q each [] = refl
any_same p q each (x ∷ xs) = ap (λ t. t || list_any p xs) (each x) ∙ ap (λ t. q x || t) (any_same p q each xs)

taken_is : (uses : List Usage) (marks : UsageMarks) → AreMarksOf uses marks → (way : UsageWay) (n : ℕ)
    → is_taken marks way n ≡ list_any (takes way n) uses
taken_is uses marks is Changes n =
    ap (λ t. t || has_number marks.read n) (is Changes n) ∙ ap (λ t. has_usage uses Changes n || t) (is Reads n)
    ∙ any_or (uses_number Changes n) (uses_number Reads n) (takes Changes n)
    (λ a. ways_of_change a.way (is_between a.first a.end n)) uses
taken_is uses marks is Reads n =
    is Changes n
    ∙ any_same (uses_number Changes n) (takes Reads n)
    (λ a. ap (λ t. t && is_between a.first a.end n) (ways_of_read a.way)) uses
taken_is uses marks is Sends n =
    is Sends n
    ∙ any_same (uses_number Sends n) (takes Sends n)
    (λ a. ap (λ t. t && is_between a.first a.end n) (ways_of_send a.way)) uses
taken_is uses marks is Receives n =
    is Receives n
    ∙ any_same (uses_number Receives n) (takes Receives n)
    (λ a. ap (λ t. t && is_between a.first a.end n) (ways_of_receive a.way)) uses

overlap_at : (n first end start last : ℕ) → is_between first end n ≡ true → is_between start last n ≡ true
    → nat_lt (max first start) (min end last) ≡ true
overlap_at n first end start last left right = grind (arith, nat_tests)

overlap_left : (first end start last : ℕ) → nat_lt (max first start) (min end last) ≡ true
    → is_between first end (max first start) ≡ true
overlap_left first end start last both = grind (arith, nat_tests)

overlap_right : (first end start last : ℕ) → nat_lt (max first start) (min end last) ≡ true
    → is_between start last (max first start) ≡ true
overlap_right first end start last both = grind (arith, nat_tests)

clash_at : (n : ℕ) (b a : Usage) → is_between b.first b.end n ≡ true → takes b.way n a ≡ true → is_clash a b ≡ true
clash_at n b a between taken =
    let parts = and_parts (are_clashing_ways a.way b.way) (is_between a.first a.end n) taken in
    and_from (are_clashing_ways a.way b.way) (nat_lt (max a.first b.first) (min a.end b.end)) parts.0
    (overlap_at n a.first a.end b.first b.end parts.1 between)

any_clash_at : (n : ℕ) (b : Usage) → is_between b.first b.end n ≡ true → (uses : List Usage)
    → list_any (takes b.way n) uses ≡ true → list_any (λ a. is_clash a b) uses ≡ true
any_clash_at n b between [] taken = taken
any_clash_at n b between (a ∷ uses) taken =
    elim (or_cases (takes b.way n a) (list_any (takes b.way n) uses) taken) [
      | inl first ↦ or_left (is_clash a b) (list_any (λ a. is_clash a b) uses) (clash_at n b a between first)
      | inr later ↦ or_right (is_clash a b) (list_any (λ a. is_clash a b) uses) (any_clash_at n b between uses later)
    ]

no_clash : (b a : Usage) → ((n : ℕ) → is_between b.first b.end n ≡ true → takes b.way n a ≡ false)
    → is_clash a b ≡ false
no_clash b a free =
    false_from_ne_true (is_clash a b)
    (λ clash.
    let parts = and_parts (are_clashing_ways a.way b.way) (nat_lt (max a.first b.first) (min a.end b.end)) clash in
    let n = max a.first b.first in
    both_ways (takes b.way n a) (free n (overlap_right a.first a.end b.first b.end parts.1))
    (and_from (are_clashing_ways a.way b.way) (is_between a.first a.end n) parts.0
    (overlap_left a.first a.end b.first b.end parts.1)))

no_clashes : (b : Usage) (uses : List Usage)
    → ((n : ℕ) → is_between b.first b.end n ≡ true → list_any (takes b.way n) uses ≡ false)
    → list_any (λ a. is_clash a b) uses ≡ false
no_clashes b [] free = refl
no_clashes b (a ∷ uses) free =
    or_from (is_clash a b) (list_any (λ a. is_clash a b) uses)
    (no_clash b a (λ n between. (or_parts (takes b.way n a) (list_any (takes b.way n) uses) (free n between)).0))
    (no_clashes b uses (λ n between. (or_parts (takes b.way n a) (list_any (takes b.way n) uses) (free n between)).1))

met_is_clash : (uses : List Usage) (marks : UsageMarks) → AreMarksOf uses marks → (b : Usage)
    → (n : ℕ) × (is_between b.first b.end n ≡ true) × (is_taken marks b.way n ≡ true)
    → list_any (λ a. is_clash a b) uses ≡ true
met_is_clash uses marks is b (n, between, taken) =
    any_clash_at n b between uses (sym (taken_is uses marks is b.way n) ∙ taken)

free_is_apart : (uses : List Usage) (marks : UsageMarks) → AreMarksOf uses marks → (b : Usage)
    → ((n : ℕ) → is_between b.first b.end n ≡ true → is_taken marks b.way n ≡ false)
    → list_any (λ a. is_clash a b) uses ≡ false
free_is_apart uses marks is b free =
    no_clashes b uses (λ n between. sym (taken_is uses marks is b.way n) ∙ free n between)

-- of the uses that a search goes over, the next may use a number that is taken: then the lists aren't apart
pub clash_met : (earlier later : List Usage) (marks : UsageMarks) (at : ℕ) (none : Usage) → AreMarksOf earlier marks
    → at < length later
    → (n : ℕ) × (is_between (get_or later at none).first (get_or later at none).end n ≡ true)
    × (is_taken marks (get_or later at none).way n ≡ true)
    → are_apart earlier later ≡ false
clash_met earlier later marks at none is within met =
    list_all_at (λ b. not (list_any (λ a. is_clash a b) earlier)) later at none within
    (ap not (met_is_clash earlier marks is (get_or later at none) met))

-- if no number of the next is taken, all up to it are apart
pub no_clash_met : (earlier later : List Usage) (marks : UsageMarks) (at : ℕ) (none : Usage) → AreMarksOf earlier marks
    → at < length later
    → ((n : ℕ) → is_between (get_or later at none).first (get_or later at none).end n ≡ true
    → is_taken marks (get_or later at none).way n ≡ false)
    → are_apart earlier (take at later) ≡ true → are_apart earlier (take (at + 1) later) ≡ true
no_clash_met earlier later marks at none is within free before =
    list_all_more (λ b. not (list_any (λ a. is_clash a b) earlier)) later at none within
    ∙ and_from (are_apart earlier (take at later)) (not (list_any (λ a. is_clash a (get_or later at none)) earlier))
    before (ap not (free_is_apart earlier marks is (get_or later at none) free))

apart_both : (first second third fourth : Bool)
    → (not (first || second) && (third && fourth)) ≡ ((not first && third) && (not second && fourth))
apart_both true second third fourth = refl
apart_both false true true fourth = refl
apart_both false true false fourth = refl
apart_both false false third fourth = refl

apart_earlier : (firsts seconds uses : List Usage)
    → are_apart (firsts ++ seconds) uses ≡ (are_apart firsts uses && are_apart seconds uses)
apart_earlier firsts seconds [] = refl
apart_earlier firsts seconds (b ∷ uses) =
    ap (λ t. not t && are_apart (firsts ++ seconds) uses) (list_any-append (λ a. is_clash a b) firsts seconds)
    ∙ ap (λ t. not (list_any (λ a. is_clash a b) firsts || list_any (λ a. is_clash a b) seconds) && t)
    (apart_earlier firsts seconds uses)
    ∙ apart_both (list_any (λ a. is_clash a b) firsts) (list_any (λ a. is_clash a b) seconds) (are_apart firsts uses)
    (are_apart seconds uses)

apart_later : (uses firsts seconds : List Usage)
    → are_apart uses (firsts ++ seconds) ≡ (are_apart uses firsts && are_apart uses seconds)
apart_later uses firsts seconds = list_all-append (λ b. not (list_any (λ a. is_clash a b) uses)) firsts seconds

and_true : (b : Bool) → b ≡ (b && true)
and_true true = refl
and_true false = refl

both_well : (old first rest before_first before_rest first_rest : Bool)
    → ((old && (first && before_first)) && (rest && (before_rest && first_rest)))
    ≡ (old && ((first && rest && first_rest) && (before_first && before_rest)))
both_well false first rest before_first before_rest first_rest = refl
both_well true false rest before_first before_rest first_rest = refl
both_well true true true true true first_rest = and_true first_rest
both_well true true true true false true = refl
both_well true true true true false false = refl
both_well true true true false before_rest true = refl
both_well true true true false before_rest false = refl
both_well true true false true before_rest first_rest = refl
both_well true true false false before_rest first_rest = refl

-- a component after others, and then the rest after all of those, are all used well and apart from one another
pub components_well : (before first rest all : List Usage) (old next new first_well rest_well : Bool)
    → all ≡ before ++ first → next ≡ (old && (first_well && are_apart before first))
    → new ≡ (next && (rest_well && are_apart all rest))
    → new ≡ (old && ((first_well && rest_well && are_apart first rest) && are_apart before (first ++ rest)))
components_well before first rest all old next new first_well rest_well joined is_next is_new =
    is_new ∙ ap (λ uses. next && (rest_well && are_apart uses rest)) joined
    ∙ ap (λ t. next && (rest_well && t)) (apart_earlier before first rest)
    ∙ ap (λ t. t && (rest_well && (are_apart before rest && are_apart first rest))) is_next
    ∙ both_well old first_well rest_well (are_apart before first) (are_apart before rest) (are_apart first rest)
    ∙ ap (λ t. old && ((first_well && rest_well && are_apart first rest) && t)) (sym (apart_later before first rest))

same_way_is : (way other : UsageWay) → is_same_way way other ≡ true → way ≡ other
same_way_is Changes Changes same = refl
same_way_is Reads Reads same = refl
same_way_is Sends Sends same = refl
same_way_is Receives Receives same = refl
same_way_is Changes Reads same = cc
same_way_is Changes Sends same = cc
same_way_is Changes Receives same = cc
same_way_is Reads Changes same = cc
same_way_is Reads Sends same = cc
same_way_is Reads Receives same = cc
same_way_is Sends Changes same = cc
same_way_is Sends Reads same = cc
same_way_is Sends Receives same = cc
same_way_is Receives Changes same = cc
same_way_is Receives Reads same = cc
same_way_is Receives Sends same = cc

same_way : (way : UsageWay) → is_same_way way way ≡ true
same_way Changes = refl
same_way Reads = refl
same_way Sends = refl
same_way Receives = refl

-- what a list uses in a way that clashes with another is taken
taken_from : (way other : UsageWay) (n : ℕ) → are_clashing_ways way other ≡ true → (uses : List Usage)
    → has_usage uses way n ≡ true → list_any (takes other n) uses ≡ true
taken_from way other n clashing [] used = used
taken_from way other n clashing (a ∷ uses) used =
    elim (or_cases (uses_number way n a) (has_usage uses way n) used) [
      | inl first ↦
          let parts = and_parts (is_same_way a.way way) (is_between a.first a.end n) first in
          or_left (takes other n a) (list_any (takes other n) uses)
          (and_from (are_clashing_ways a.way other) (is_between a.first a.end n)
          (ap (λ w. are_clashing_ways w other) (same_way_is a.way way parts.0) ∙ clashing) parts.1)
      | inr later ↦
          or_right (takes other n a) (list_any (takes other n) uses) (taken_from way other n clashing uses later)
    ]

-- what is taken is used in a way that clashes
used_in_way : (other : UsageWay) (n : ℕ) (uses : List Usage) → list_any (takes other n) uses ≡ true
    → (way : UsageWay) × (are_clashing_ways way other ≡ true) × (has_usage uses way n ≡ true)
used_in_way other n [] taken = absurd (false≢true taken)
used_in_way other n (a ∷ uses) taken =
    elim (or_cases (takes other n a) (list_any (takes other n) uses) taken) [
      | inl first ↦
          let parts = and_parts (are_clashing_ways a.way other) (is_between a.first a.end n) first in (
            a.way,
            parts.0,
            or_left (uses_number a.way n a) (has_usage uses a.way n)
                (and_from (is_same_way a.way a.way) (is_between a.first a.end n) (same_way a.way) parts.1),
          )
      | inr later ↦
          let rest = used_in_way other n uses later in
          (rest.0, rest.1, or_right (uses_number rest.0 n a) (has_usage uses rest.0 n) rest.2)
    ]

-- uses that are apart share no number in ways that clash
pub shares_nothing : (firsts seconds : List Usage) → are_apart firsts seconds ≡ true → (way other : UsageWay) (n : ℕ)
    → are_clashing_ways way other ≡ true → has_usage firsts way n ≡ true → has_usage seconds other n ≡ true → ⊥
shares_nothing firsts [] apart way other n clashing used shared = false≢true shared
shares_nothing firsts (b ∷ seconds) apart way other n clashing used shared =
    let parts = and_parts (not (list_any (λ a. is_clash a b) firsts)) (are_apart firsts seconds) apart in
    elim (or_cases (uses_number other n b) (has_usage seconds other n) shared) [
      | inl first ↦
          let here = and_parts (is_same_way b.way other) (is_between b.first b.end n) first in
          both_ways (list_any (λ a. is_clash a b) firsts) (not-true (list_any (λ a. is_clash a b) firsts) parts.0)
          (any_clash_at n b here.1 firsts
          (taken_from way b.way n (ap (are_clashing_ways way) (same_way_is b.way other here.0) ∙ clashing) firsts used))
      | inr later ↦ shares_nothing firsts seconds parts.1 way other n clashing used later
    ]

-- uses that share no number in ways that clash are apart
pub shared_otherwise : (firsts seconds : List Usage)
    → ((way other : UsageWay) (n : ℕ) → are_clashing_ways way other ≡ true → has_usage firsts way n ≡ true
    → has_usage seconds other n ≡ true → ⊥)
    → are_apart firsts seconds ≡ true
shared_otherwise firsts [] apart = refl
shared_otherwise firsts (b ∷ seconds) apart =
    and_from (not (list_any (λ a. is_clash a b) firsts)) (are_apart firsts seconds)
    (ap not (no_clashes b firsts
    (λ n between.
    false_from_ne_true (list_any (takes b.way n) firsts)
    (λ taken.
    let way = used_in_way b.way n firsts taken in
    apart way.0 b.way n way.1 way.2
    (or_left (uses_number b.way n b) (has_usage seconds b.way n)
    (and_from (is_same_way b.way b.way) (is_between b.first b.end n) (same_way b.way) between))))))
    (shared_otherwise firsts seconds
    (λ way other n clashing used shared.
    apart way other n clashing used (or_right (uses_number other n b) (has_usage seconds other n) shared)))

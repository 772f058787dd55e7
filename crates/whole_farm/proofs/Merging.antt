-- A merge of the domains' journals is a run of the whole farm, for the law `each_merge_is_a_run`.
use Rattle.std.proofs.Common.{◌≡◌, inl, inr, ℕ, ◌<◌, ◌≤◌, List, [], ◌∷◌, Option, Some, None, Ok, length, slice_get, map}
use Rattle.std.proofs.Common.{option_map, All, refl, sym, ap, ◌∙◌, arith, subst}
use Rattle.std.proofs.lemmas.Bool.{cases_eq}
use Rattle.std.proofs.lemmas.List.{length-map}
use Rattle.std.proofs.lemmas.Option.{slice_get_within, slice_get_past, slice_get_cases, none-some, same_Some}
use Rattle.std.proofs.lemmas.Option.{slice_get-map, get_or_from_slice_get}
use Rattle.domain_core.specs.PrivateFarm.{State, Call, Answer, answers, after, opening}
use Rattle.domain_core.specs.Domain.{DomainValue, state_of, IsMeant}
use Rattle.domain_core.specs.Journal.{AnsweredCall, IsHistory, calls_of, replies_of}
use Rattle.whole_farm.specs.Places.{Place, AreSeparatePlaces}
use Rattle.whole_farm.specs.Whole.{physical_answers, whole_opening}
use Rattle.whole_farm.specs.Projection.{own}
use Rattle.whole_farm.specs.Merges.{journal_at, IsMerge, merged_calls, merged_answers, AreHistories}
use Rattle.whole_farm.specs.Merges.{EachMergeIsARun, own_place}
use Rattle.whole_farm.specs.Merges.{own_journal, EachMergeOfDomainsIsARun}
use Rattle.whole_farm.proofs.MadeOfDomains.{tidy_after, tidy_opening}
use Rattle.whole_farm.proofs.Runs.{own-here, own-there, own-map, told_pairs, own_told}
use Rattle.whole_farm.proofs.Runs.{told_domains, told_answers, each_domain_is_private}
use Rattle.crossbar.specs.Laws.{SwitchLaws}

-- ---- a list is known by the order of its domains and by each domain's own

same-head : {X : Type 0} {a b : X} {xs ys : List X} → a ∷ xs ≡ b ∷ ys → a ≡ b
same-head same = cc

same-tail : {X : Type 0} {a b : X} {xs ys : List X} → a ∷ xs ≡ b ∷ ys → xs ≡ ys
same-tail same = cc

own-tails : {X : Type 0} (d : ℕ) (pair other_pair : ℕ × X) (xs ys : List (ℕ × X)) → pair.0 ≡ other_pair.0
    → own d (pair ∷ xs) ≡ own d (other_pair ∷ ys)
    → own d xs ≡ own d ys
own-tails d pair other_pair xs ys heads same =
    elim (cases_eq pair.0 d) [
      | inl here ↦ same-tail (sym (own-here d pair xs here) ∙ same ∙ own-here d other_pair ys (sym heads ∙ here))
      | inr ne ↦ sym (own-there d pair xs ne) ∙ same ∙ own-there d other_pair ys (λ e. ne (heads ∙ e))
    ]

-- two lists with the same numbers in the same order and, number by number, the same values are equal
pub same-list : {X : Type 0} (xs ys : List (ℕ × X))
    → map (λ x. x.0) xs ≡ map (λ y. y.0) ys → ((d : ℕ) → own d xs ≡ own d ys)
    → xs ≡ ys
same-list [] [] domains each = refl
same-list [] (y ∷ ys) domains each = let e = ap length domains in absurd (omega arith)
same-list (x ∷ xs) [] domains each = let e = ap length domains in absurd (omega arith)
same-list (x ∷ xs) (y ∷ ys) domains each =
    let heads : x.0 ≡ y.0 = same-head domains in
    let first : x.1 ≡ y.1 = same-head (sym (own-here x.0 x xs refl) ∙ each x.0 ∙ own-here x.0 y ys (sym heads)) in
    let rest = same-list xs ys (same-tail domains) (λ d. own-tails d x y xs ys heads (each d)) in
    λ i. (heads i, first i) ∷ rest i

-- ---- what a merge asks, and the stored replies

abbrev stored : List (ℕ × AnsweredCall) → List (ℕ × Answer)
stored merge = map (λ x. (x.0, Ok x.1.reply)) merge

own_calls : (domain : ℕ) (merge : List (ℕ × AnsweredCall))
    → own domain (merged_calls merge) ≡ calls_of (own domain merge)
own_calls domain merge = own-map (λ d a. a.call) domain merge

own_stored : (domain : ℕ) (merge : List (ℕ × AnsweredCall)) → own domain (stored merge) ≡ replies_of (own domain merge)
own_stored domain merge = own-map (λ d a. Ok a.reply) domain merge

call_domains : (merge : List (ℕ × AnsweredCall)) → map (λ c. c.0) (merged_calls merge) ≡ map (λ t. t.0) (stored merge)
call_domains [] = refl
call_domains (x ∷ merge) = ap (λ rest. x.0 ∷ rest) (call_domains merge)

stored_replies : (merge : List (ℕ × AnsweredCall)) → map (λ t. t.1) (stored merge) ≡ merged_answers merge
stored_replies [] = refl
stored_replies (x ∷ merge) =
    ap (λ (rest : List Answer). (let a : Answer = Ok x.1.reply in a) ∷ rest) (stored_replies merge)

-- ---- what is there at each domain's number

-- below the length of a list something is
pub there_is : {X : Type 0} (xs : List X) (i : ℕ) → i < length xs → (x : X) × (slice_get xs i ≡ Some x)
there_is xs i inside =
    elim (slice_get_cases xs i).1 [
      | inl found ↦ (found.0, found.2)
      | inr past ↦ absurd (omega (arith, past.0))
    ]

none_own : (d : ℕ) (xs : List (ℕ × Call)) (ys : List (ℕ × Answer))
    → map (λ x. x.0) xs ≡ map (λ y. y.0) ys → own d xs ≡ []
    → own d ys ≡ []
none_own d [] [] domains none = refl
none_own d [] (y ∷ ys) domains none = let e = ap length domains in absurd (omega arith)
none_own d (x ∷ xs) [] domains none = refl
none_own d (x ∷ xs) (y ∷ ys) domains none =
    elim (cases_eq x.0 d) [
      | inl here ↦ let e = ap length (sym (own-here d x xs here) ∙ none) in absurd (omega arith)
      | inr ne ↦
          own-there d y ys (λ e. ne (same-head domains ∙ e))
          ∙ none_own d xs ys (same-tail domains) (sym (own-there d x xs ne) ∙ none)
    ]

-- the history of a domain that is there
history : (plan : List Place) (journals : List (List AnsweredCall)) (states : List State) (domain : ℕ) (place : Place)
    → AreHistories plan journals states
    → slice_get plan domain ≡ Some place
    → (journal : List AnsweredCall) × (s : State) × (slice_get journals domain ≡ Some journal)
    × (slice_get states domain ≡ Some s) × IsHistory place.part journal s
history plan journals states domain place are there =
    let inside = slice_get_within plan domain place there in
    let journal = there_is journals domain (omega (arith, inside, are.journal_each)) in
    let s = there_is states domain (omega (arith, inside, are.state_each)) in
    (journal.0, s.0, journal.1, s.1, are.each domain place journal.0 s.0 there journal.1 s.1)

own_replies : SwitchLaws
    → (plan : List Place) (journals : List (List AnsweredCall)) (states : List State) (merge : List (ℕ × AnsweredCall))
    (domain : ℕ) (found : Option Place)
    → slice_get plan domain ≡ found
    → AreSeparatePlaces plan → AreHistories plan journals states → IsMerge journals merge
    → own domain (told_pairs plan (physical_answers plan (whole_opening plan) (merged_calls merge)))
    ≡ own domain (stored merge)
own_replies laws plan journals states merge domain None at separate are is =
    let out : length plan ≤ domain =
    elim (slice_get_cases plan domain).1 [
      | inl some ↦ let e = sym at ∙ some.2 in absurd (none-some some.0 e)
      | inr past ↦ past.0
    ] in
    let none : own domain merge ≡ [] =
    is domain ∙ ap journal_at (slice_get_past journals domain (omega (arith, out, are.journal_each))) in
    let asked : own domain (merged_calls merge) ≡ [] = own_calls domain merge ∙ ap calls_of none in
    none_own domain (merged_calls merge) _ (sym (told_domains plan (whole_opening plan) (merged_calls merge))) asked
    ∙ sym (own_stored domain merge ∙ ap replies_of none)
own_replies laws plan journals states merge domain (Some place) at separate are is =
    let h = history plan journals states domain place are at in
    let has : own domain merge ≡ h.0 = is domain ∙ ap journal_at h.2 in
    own_told laws plan (merged_calls merge) domain place separate at
    ∙ ap (answers place.part (opening place.part)) (own_calls domain merge ∙ ap calls_of has)
    ∙ h.4.replies ∙ sym (own_stored domain merge ∙ ap replies_of has)

-- every merge of histories of separate places is a run of the whole farm
pub each_merge_is_a_run : SwitchLaws → EachMergeIsARun
each_merge_is_a_run laws plan journals states merge separate are is = record {
  replies =
      let heard = physical_answers plan (whole_opening plan) (merged_calls merge) in
      sym (told_answers plan heard)
      ∙ ap (map (λ t. t.1))
      (same-list (told_pairs plan heard) (stored merge)
      (told_domains plan (whole_opening plan) (merged_calls merge) ∙ call_domains merge)
      (λ d. own_replies laws plan journals states merge d (slice_get plan d) refl separate are is))
      ∙ stored_replies merge;
  ends =
      let tidy = tidy_after laws plan (whole_opening plan) (merged_calls merge) separate (tidy_opening plan) in
      record {
        state_each = are.state_each;
        each = λ domain place s there at.
            let h = history plan journals states domain place are there in
            let has : own domain merge ≡ h.0 = is domain ∙ ap journal_at h.2 in
            (each_domain_is_private laws plan (merged_calls merge) domain place separate there).state
            ∙ ap (after place.part (opening place.part)) (own_calls domain merge ∙ ap calls_of has)
            ∙ (are.each domain place h.0 s there h.2 at).state;
        within = tidy.within;
        free = tidy.free;
      };
}

-- ---- of domains, each with its journal

-- what is at a place of a list that was made of another
made_of : {X Y : Type 0} (make : X → Y) (found : Option X) (y : Y) → option_map make found ≡ Some y
    → (x : X) × (found ≡ Some x) × (make x ≡ y)
made_of make None y is = absurd (none-some y is)
made_of make (Some x) y is = (x, refl, same_Some _ _ is)

-- a value that is made of each domain is made of one that is at its number
domain_of : {Y : Type 0} (make : DomainValue → Y) (domains : List DomainValue) (number : ℕ) (y : Y)
    → slice_get (map make domains) number ≡ Some y
    → (d : DomainValue) × (slice_get domains number ≡ Some d) × (make d ≡ y)
domain_of make domains number y at =
    made_of make (slice_get domains number) y (sym (slice_get-map make domains number) ∙ at)

are_histories : (domains : List DomainValue) → All IsMeant domains
    → AreHistories (map own_place domains) (map own_journal domains) (map state_of domains)
are_histories domains meant = record {
  journal_each = length-map domains own_journal ∙ sym (length-map domains own_place);
  state_each = length-map domains state_of ∙ sym (length-map domains own_place);
  each = λ number place journal s there journal_at state_at.
      let d = domain_of own_place domains number place there in
      let j = domain_of own_journal domains number journal journal_at in
      let t = domain_of state_of domains number s state_at in
      let same_j : own_journal d.0 ≡ journal = ap own_journal (same_Some _ _ (sym d.1 ∙ j.1)) ∙ j.2 in
      let same_s : state_of d.0 ≡ s = ap state_of (same_Some _ _ (sym d.1 ∙ t.1)) ∙ t.2 in
      let is : IsMeant d.0 =
      subst IsMeant (get_or_from_slice_get domains number d.0 d.0 d.1)
      (meant number d.0 (slice_get_within domains number d.0 d.1)) in
      subst (λ (p : Place). IsHistory p.part journal s) d.2
      (subst (λ x. IsHistory d.0.machine.part journal x) same_s
      (subst (λ h. IsHistory d.0.machine.part h (state_of d.0)) same_j is.history));
}

-- every merge of the journals of separate domains is a run, which ends made of what the domains are
pub each_merge_of_domains_is_a_run : SwitchLaws → EachMergeOfDomainsIsARun
each_merge_of_domains_is_a_run laws domains merge separate meant is =
    each_merge_is_a_run laws (map own_place domains) (map own_journal domains) (map state_of domains) merge separate
    (are_histories domains meant) is

-- That there is a whole farm made of the domains: one journal after another is a merge. For `PlainFarm::whole_law`.
use Rattle.std.proofs.Common.{◌≡◌, ◌≢◌, inl, inr, ℕ, zero, suc, ◌+◌, ◌<◌, ◌≤◌, List, [], ◌∷◌, ◌++◌, Some, length}
use Rattle.std.proofs.Common.{slice_get, get_or, map, All, refl, sym, ap, ◌∙◌, arith, subst, ◌==◌}
use Rattle.std.proofs.lemmas.Bool.{cases_eq}
use Rattle.std.proofs.lemmas.List.{map-append, append-nil}
use Rattle.std.proofs.lemmas.List.Elements.{filter-append}
use Rattle.std.proofs.lemmas.Option.{slice_get_past, slice_get-get_or, same_Some}
use Rattle.domain_core.specs.Domain.{DomainValue, IsMeant}
use Rattle.domain_core.specs.Journal.{AnsweredCall}
use Rattle.whole_farm.specs.Places.{AreSeparatePlaces}
use Rattle.whole_farm.specs.Projection.{own}
use Rattle.whole_farm.specs.Merges.{journal_at, IsMerge, own_journal, EachMergeOfDomainsIsARun}
use Rattle.whole_farm.specs.Values.{all_places}
use Rattle.whole_farm.specs.Words.{HasRow}
use Rattle.farm_core.specs.PlainFarm.{HaveAWhole}
use Rattle.farm_core.proofs.Lists.{own-here, own-there}

-- ---- one journal after another

abbrev tagged : ℕ → List AnsweredCall → List (ℕ × AnsweredCall)
tagged number journal = map (λ a. (number, a)) journal

-- journals whose first is the domain's of this number
abbrev joined_from : ℕ → List (List AnsweredCall) → List (ℕ × AnsweredCall)
joined_from number [] = []
joined_from number (journal ∷ journals) = tagged number journal ++ joined_from (number + 1) journals

own-append : (domain : ℕ) (xs ys : List (ℕ × AnsweredCall)) → own domain (xs ++ ys) ≡ own domain xs ++ own domain ys
own-append domain xs ys =
    ap (map (λ (x : ℕ × AnsweredCall). x.1)) (filter-append (λ (x : ℕ × AnsweredCall). x.0 == domain) xs ys)
    ∙ map-append (λ (x : ℕ × AnsweredCall). x.1) _ _

own_of_tagged : (number : ℕ) (journal : List AnsweredCall) → own number (tagged number journal) ≡ journal
own_of_tagged number [] = refl
own_of_tagged number (a ∷ journal) =
    own-here number (number, a) (tagged number journal) refl ∙ ap (λ rest. a ∷ rest) (own_of_tagged number journal)

none_of_tagged : (domain number : ℕ) (journal : List AnsweredCall) → number ≢ domain
    → own domain (tagged number journal) ≡ []
none_of_tagged domain number [] ne = refl
none_of_tagged domain number (a ∷ journal) ne =
    own-there domain (number, a) (tagged number journal) ne ∙ none_of_tagged domain number journal ne

none_before : (domain number : ℕ) (journals : List (List AnsweredCall)) → domain < number
    → own domain (joined_from number journals) ≡ []
none_before domain number [] less = refl
none_before domain number (journal ∷ journals) less =
    own-append domain (tagged number journal) (joined_from (number + 1) journals)
    ∙ (λ i. none_of_tagged domain number journal (λ e. omega arith) i
    ++ none_before domain (number + 1) journals (omega arith) i)

own_of_joined : (domain number k : ℕ) (journals : List (List AnsweredCall)) → domain ≡ number + k
    → own domain (joined_from number journals) ≡ journal_at (slice_get journals k)
own_of_joined domain number k [] is = ap journal_at (sym (slice_get_past [] k (omega arith)))
own_of_joined domain number zero (journal ∷ journals) is =
    let same : number ≡ domain = omega (arith, is) in
    own-append domain (tagged number journal) (joined_from (number + 1) journals)
    ∙ (λ i. (ap (λ d. own d (tagged number journal)) (sym same) ∙ own_of_tagged number journal) i
    ++ none_before domain (number + 1) journals (omega (arith, is)) i)
    ∙ append-nil journal
own_of_joined domain number (suc k) (journal ∷ journals) is =
    own-append domain (tagged number journal) (joined_from (number + 1) journals)
    ∙ (λ i. none_of_tagged domain number journal (λ e. omega (arith, is, e)) i
    ++ own_of_joined domain (number + 1) k journals (omega (arith, is)) i)

joined_merges : (journals : List (List AnsweredCall)) → IsMerge journals (joined_from 0 journals)
joined_merges journals domain = own_of_joined domain 0 domain journals (omega arith)

-- separate domains that are what their journals say are those of a whole farm
pub have_a_whole : EachMergeOfDomainsIsARun → (domains : List DomainValue) → AreSeparatePlaces (all_places domains)
    → All IsMeant domains
    → HaveAWhole domains
have_a_whole law domains separate meant = record {
  merge = joined_from 0 (map own_journal domains);
  merges = joined_merges (map own_journal domains);
  run =
      law domains (joined_from 0 (map own_journal domains)) separate meant (joined_merges (map own_journal domains));
}

-- ---- domain after domain

-- the first domains are their journals, and have rows of words
abbrev pub AreMeantBelow : List DomainValue → ℕ → Type 0
AreMeantBelow domains count =
    (k : ℕ) (d : DomainValue) → k < count → slice_get domains k ≡ Some d → IsMeant d × HasRow d

-- if the first domains are what their journals say, and the next is, one more is
pub one_meant_more : (domains : List DomainValue) (count : ℕ) (d : DomainValue)
    → AreMeantBelow domains count → slice_get domains count ≡ Some d → IsMeant d → HasRow d
    → AreMeantBelow domains (count + 1)
one_meant_more domains count d before at meant row k e below there =
    elim (cases_eq k count) [
      | inl same ↦
          let is : d ≡ e = same_Some _ _ (sym at ∙ ap (slice_get domains) (sym same) ∙ there) in
          (subst IsMeant is meant, subst HasRow is row)
      | inr ne ↦ before k e (omega arith) there
    ]

-- if that is so of as many as there are, each domain is what its journal says
pub all_meant : (domains : List DomainValue) (count : ℕ) → length domains ≤ count → AreMeantBelow domains count
    → All IsMeant domains
all_meant domains count all meant k e less =
    (meant k (get_or domains k e) (omega (arith, less, all)) (slice_get-get_or domains k e less)).0

-- if that is so of as many as there are, each domain's words are a row of its ports
pub all_rows : (domains : List DomainValue) (count : ℕ) → length domains ≤ count → AreMeantBelow domains count
    → All HasRow domains
all_rows domains count all meant k e less =
    (meant k (get_or domains k e) (omega (arith, less, all)) (slice_get-get_or domains k e less)).1

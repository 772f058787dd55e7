-- A run of the whole farm is, for each domain, a run of a farm that holds it alone: the laws `each_domain_is_private`
-- and `equal_domains_are_answered_alike`.
use Rattle.std.proofs.Common.{◌≡◌, ◌≢◌, inl, inr, ℕ, true, false, Option, Some, None, List, [], ◌∷◌, slice_get, map}
use Rattle.std.proofs.Common.{refl, sym, ap, ◌∙◌, subst, ◌==◌}
use Rattle.std.proofs.lemmas.Bool.{cases_eq, eq-eqb, ne_eqb}
use Rattle.std.proofs.lemmas.Option.{none-some}
use Rattle.std.specs.List.{zip}
use Rattle.std.specs.FinMap as fin
use Rattle.std.specs.FinSet as set
use Rattle.std.specs.Ordering.{nat_cmp}
use Rattle.std.specs.Option.{option_and_then}
use Rattle.crossbar.specs.Row.{number_among}
use Rattle.crossbar.specs.Switch.{cleared}
use Rattle.crossbar.specs.Laws.{SwitchLaws}
use Rattle.domain_core.specs.PrivateFarm.{Call, Answer, next, answers, after, opening}
use Rattle.whole_farm.specs.Places.{Place, AreSeparatePlaces}
use Rattle.whole_farm.specs.Whole.{Farm, opened_at, whole_next, physical_answers, whole_after, whole_opening}
use Rattle.whole_farm.specs.Projection.{own_switch, driver_at, ready_at, projected, lowered_answer, lowered_for, own}
use Rattle.whole_farm.specs.Laws.{EachDomainIsPrivate, EqualDomainsAreAnsweredAlike, EachIsToldPrivately}
use Rattle.whole_farm.proofs.OneOutputSet.{get-own_switch, contains-own_switch}
use Rattle.whole_farm.specs.Domains.{EachDrivesItself}
use Rattle.whole_farm.proofs.Steps.{StepsAlone, steps_alone, other_stays, still_each_drives}

-- ---- one domain's own

-- if the first value is the domain's, its own values begin with it
pub own-here : {X : Type 0} (domain : ℕ) (pair : ℕ × X) (xs : List (ℕ × X)) → pair.0 ≡ domain
    → own domain (pair ∷ xs) ≡ pair.1 ∷ own domain xs
own-here domain pair xs same = let test : (pair.0 == domain) ≡ true = eq-eqb _ _ same in rw test refl

-- if the first value is another domain's, the domain's own values are those of the rest
pub own-there : {X : Type 0} (domain : ℕ) (pair : ℕ × X) (xs : List (ℕ × X)) → pair.0 ≢ domain
    → own domain (pair ∷ xs) ≡ own domain xs
own-there domain pair xs ne = let test : (pair.0 == domain) ≡ false = ne_eqb _ _ ne in rw test refl

-- ---- run after run

-- from any farm on, a domain is answered what it would be answered alone, and becomes what it would become
record RunsAlone (plan : List Place) (farm : Farm) (calls : List (ℕ × Call)) (domain : ℕ) (place : Place) : Type 0 where
  told : map (lowered_answer place) (own domain (physical_answers plan farm calls))
      ≡ answers place.part (projected place farm domain) (own domain calls)
  state : projected place (whole_after plan farm calls) domain
      ≡ after place.part (projected place farm domain) (own domain calls)

-- its own call
own-call : (plan : List Place) (farm : Farm) (call : ℕ × Call) (calls : List (ℕ × Call)) (domain : ℕ) (place : Place)
    → call.0 ≡ domain
    → StepsAlone place domain farm (whole_next plan farm call) (next place.part (projected place farm domain) call.1)
    → RunsAlone plan (whole_next plan farm call).0 calls domain place → RunsAlone plan farm (call ∷ calls) domain place
own-call plan farm call calls domain place same step rest =
    let asked = own-here domain call calls same in
    let answer : ℕ × Answer = (call.0, (whole_next plan farm call).1) in
    let heard = own-here domain answer (physical_answers plan (whole_next plan farm call).0 calls) same in
    record {
      told =
          ap (map (lowered_answer place)) heard
          ∙ (λ i. step.answer i ∷ (rest.told ∙ ap (λ s. answers place.part s (own domain calls)) step.state) i)
          ∙ sym (ap (answers place.part (projected place farm domain)) asked);
      state =
          rest.state ∙ ap (λ s. after place.part s (own domain calls)) step.state
          ∙ sym (ap (after place.part (projected place farm domain)) asked);
    }

-- another's
other-call : (plan : List Place) (farm : Farm) (call : ℕ × Call) (calls : List (ℕ × Call)) (domain : ℕ) (place : Place)
    → call.0 ≢ domain
    → projected place (whole_next plan farm call).0 domain ≡ projected place farm domain
    → RunsAlone plan (whole_next plan farm call).0 calls domain place
    → RunsAlone plan farm (call ∷ calls) domain place
other-call plan farm call calls domain place ne stays rest =
    let asked = own-there domain call calls ne in
    let answer : ℕ × Answer = (call.0, (whole_next plan farm call).1) in
    let heard = own-there domain answer (physical_answers plan (whole_next plan farm call).0 calls) ne in
    record {
      told =
          ap (map (lowered_answer place)) heard ∙ rest.told ∙ ap (λ s. answers place.part s (own domain calls)) stays
          ∙ sym (ap (answers place.part (projected place farm domain)) asked);
      state =
          rest.state ∙ ap (λ s. after place.part s (own domain calls)) stays
          ∙ sym (ap (after place.part (projected place farm domain)) asked);
    }

runs-alone : SwitchLaws → (plan : List Place) (farm : Farm) (calls : List (ℕ × Call)) (domain : ℕ) (place : Place)
    → AreSeparatePlaces plan → EachDrivesItself plan farm.switch
    → slice_get plan domain ≡ Some place
    → RunsAlone plan farm calls domain place
runs-alone laws plan farm [] domain place separate own there = record { told = refl; state = refl }
runs-alone laws plan farm (call ∷ calls) domain place separate own there =
    let rest =
    runs-alone laws plan (whole_next plan farm call).0 calls domain place separate
    (still_each_drives laws plan farm call separate own) there in
    elim (cases_eq call.0 domain) [
      | inl same ↦
          own-call plan farm call calls domain place same
          (subst (λ d.
          StepsAlone place d farm (whole_next plan farm call) (next place.part (projected place farm d) call.1))
          same
          (steps_alone laws plan farm call.0 place call.1 separate own (ap (slice_get plan) same ∙ there))) rest
      | inr ne ↦
          other-call plan farm call calls domain place ne
          (other_stays laws plan farm call.0 call.1 domain place separate own there (λ e. ne (sym e))) rest
    ]

-- ---- from the opening

-- as the whole farm is opened, each domain's outputs are driven from inside it
pub opening_drives : (plan : List Place) → EachDrivesItself plan (whole_opening plan).switch
opening_drives plan domain place there port input at driven =
    absurd (none-some input (sym (fin.get-empty nat_cmp port) ∙ driven))

own_cleared : SwitchLaws → (ports : List ℕ) → own_switch ports cleared ≡ cleared
own_cleared laws ports =
    laws.same _ _
    (λ q. get-own_switch laws ports cleared q ∙ driver (slice_get ports q) ∙ sym (fin.get-empty nat_cmp q)) (λ q.
    contains-own_switch laws ports cleared q ∙ ready (slice_get ports q) ∙ sym (set.contains-empty nat_cmp q))
  where
    driver : (found : Option ℕ) → driver_at ports cleared found ≡ None
    driver None = refl
    driver (Some port) = ap (option_and_then (number_among ports)) (fin.get-empty nat_cmp port)

    ready : (found : Option ℕ) → ready_at cleared found ≡ false
    ready None = refl
    ready (Some port) = set.contains-empty nat_cmp port

-- as the whole farm is opened, each domain is as it is opened alone
pub opens_alone : SwitchLaws → (plan : List Place) (domain : ℕ) (place : Place) → slice_get plan domain ≡ Some place
    → projected place (whole_opening plan) domain ≡ opening place.part
opens_alone laws plan domain place there =
    let devices = ap opened_at there in
    λ i.
    record {
      machine = record { switch = own_cleared laws place.ports i; rest = []; devices = devices i };
      recorded = 0;
    }

-- after each list of calls every domain's outputs are driven from inside it
drives_after : SwitchLaws → (plan : List Place) (farm : Farm) (calls : List (ℕ × Call)) → AreSeparatePlaces plan
    → EachDrivesItself plan farm.switch
    → EachDrivesItself plan (whole_after plan farm calls).switch
drives_after laws plan farm [] separate own = own
drives_after laws plan farm (call ∷ calls) separate own =
    drives_after laws plan (whole_next plan farm call).0 calls separate
    (still_each_drives laws plan farm call separate own)

-- in every run of separate places each domain is as if it were alone
pub each_domain_is_private : SwitchLaws → EachDomainIsPrivate
each_domain_is_private laws plan calls domain place separate there =
    let run = runs-alone laws plan (whole_opening plan) calls domain place separate (opening_drives plan) there in
    let opens = opens_alone laws plan domain place there in
    record {
      told = run.told ∙ ap (λ s. answers place.part s (own domain calls)) opens;
      state = run.state ∙ ap (λ s. after place.part s (own domain calls)) opens;
      inside = drives_after laws plan (whole_opening plan) calls separate (opening_drives plan) domain place there;
    }

-- farms with equal domains answer these alike, whatever is beside them and whatever the others call
pub equal_domains_are_answered_alike : SwitchLaws → EqualDomainsAreAnsweredAlike
equal_domains_are_answered_alike laws plan other_plan calls other_calls domain other place there separate
    other_separate at other_at parts asked =
    (each_domain_is_private laws plan calls domain place separate at).told
    ∙ (λ i. answers (parts i) (opening (parts i)) (asked i))
    ∙ sym (each_domain_is_private laws other_plan other_calls other there other_separate other_at).told

-- ---- what all callers are answered

-- one domain's own of what is made of each
pub own-map : {X Y : Type 0} (make : ℕ → X → Y) (domain : ℕ) (xs : List (ℕ × X))
    → own domain (map (λ x. (x.0, make x.0 x.1)) xs) ≡ map (make domain) (own domain xs)
own-map make domain [] = refl
own-map {X} {Y} make domain (x ∷ xs) =
    let made : ℕ × Y = (x.0, make x.0 x.1) in
    elim (cases_eq x.0 domain) [
      | inl same ↦
          own-here domain made (map (λ x. (x.0, make x.0 x.1)) xs) same
          ∙ (λ i. make (same i) x.1 ∷ own-map make domain xs i)
          ∙ sym (ap (map (make domain)) (own-here domain x xs same))
      | inr ne ↦
          own-there domain made (map (λ x. (x.0, make x.0 x.1)) xs) ne ∙ own-map make domain xs
          ∙ sym (ap (map (make domain)) (own-there domain x xs ne))
    ]

-- each answer as it is given, with the domain that it goes to
abbrev pub told_pairs : List Place → List (ℕ × Answer) → List (ℕ × Answer)
told_pairs plan heard = map (λ t. (t.0, lowered_for (slice_get plan t.0) t.1)) heard

-- of all that is answered in a run, what a domain's callers are answered is what the domain alone answers
pub own_told : SwitchLaws → (plan : List Place) (calls : List (ℕ × Call)) (domain : ℕ) (place : Place)
    → AreSeparatePlaces plan
    → slice_get plan domain ≡ Some place
    → own domain (told_pairs plan (physical_answers plan (whole_opening plan) calls))
    ≡ answers place.part (opening place.part) (own domain calls)
own_told laws plan calls domain place separate there =
    own-map (λ d answer. lowered_for (slice_get plan d) answer) domain
    (physical_answers plan (whole_opening plan) calls)
    ∙ ap (λ found. map (lowered_for found) (own domain (physical_answers plan (whole_opening plan) calls))) there
    ∙ (each_domain_is_private laws plan calls domain place separate there).told

-- the answers of a run are given for the domains of its calls, in their order
pub told_domains : (plan : List Place) (farm : Farm) (calls : List (ℕ × Call))
    → map (λ t. t.0) (told_pairs plan (physical_answers plan farm calls)) ≡ map (λ c. c.0) calls
told_domains plan farm [] = refl
told_domains plan farm (call ∷ calls) = ap (λ ds. call.0 ∷ ds) (told_domains plan (whole_next plan farm call).0 calls)

-- what is shown of each answer of a run is that answer, lowered by the place of its domain
pub told_answers : (plan : List Place) (heard : List (ℕ × Answer))
    → map (λ t. t.1) (told_pairs plan heard) ≡ map (λ t. lowered_for (slice_get plan t.0) t.1) heard
told_answers plan [] = refl
told_answers plan (t ∷ heard) = ap (λ rest. lowered_for (slice_get plan t.0) t.1 ∷ rest) (told_answers plan heard)

-- numbers and values that are taken apart and put together again are as before
zip-parts : {X : Type 0} (xs : List (ℕ × X)) → zip (map (λ x. x.0) xs) (map (λ x. x.1) xs) ≡ xs
zip-parts [] = refl
zip-parts (x ∷ xs) = ap (λ rest. x ∷ rest) (zip-parts xs)

-- what the callers of a domain are answered is what a farm with it alone answers to their calls
pub each_is_told_privately : SwitchLaws → EachIsToldPrivately
each_is_told_privately laws plan calls domain place separate there =
    let heard = physical_answers plan (whole_opening plan) calls in
    (λ i. own domain (zip (sym (told_domains plan (whole_opening plan) calls) i) (sym (told_answers plan heard) i)))
    ∙ ap (own domain) (zip-parts (told_pairs plan heard)) ∙ own_told laws plan calls domain place separate there

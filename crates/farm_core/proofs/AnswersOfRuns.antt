-- What the callers of a run are answered, call by call, for the clauses
-- `whole`, `elsewhere` and `one_each` of `run` and for `answers_to`.
use Rattle.std.proofs.Common.{◌≡◌, inl, inr, ℕ, suc, ◌+◌, ◌<◌, None, Ok, Err, List, [], ◌∷◌, ◌++◌, length, get_or, drop}
use Rattle.std.proofs.Common.{slice_get, map, All, refl, sym, ap, ◌∙◌, subst, add-one, drop-cons, append_assoc}
use Rattle.std.proofs.lemmas.Bool.{cases_eq}
use Rattle.std.specs.List.{zip}
use Rattle.std.proofs.lemmas.List.{length-map}
use Rattle.std.proofs.lemmas.List.Elements.{All-nil, All-cons}
use Rattle.domain_core.specs.declared.event.By.{By}
use Rattle.domain_core.specs.declared.event.Event.{Event}
use Rattle.domain_core.specs.declared.event.Refusal.TheVariants.{NoSuch, JournalFull, NoMemory}
use Rattle.domain_core.specs.PrivateFarm.{Call, Answer}
use Rattle.domain_core.specs.Domain.{UnlessNoMemory, DomainValue}
use Rattle.plan_rules.specs.Data.{DomainData}
use Rattle.whole_farm.specs.Places.{Place, places_of}
use Rattle.whole_farm.specs.Whole.{Farm, whole_next, whole_opening}
use Rattle.whole_farm.specs.Projection.{lowered_for, own}
use Rattle.whole_farm.specs.Domains.{IsMadeOf, NoDomainNoChange}
use Rattle.whole_farm.specs.Laws.{caller_answers_from, caller_answers, answers_among}
use Rattle.whole_farm.specs.Values.{all_places, all_states}
use Rattle.farm_core.specs.PlainFarm.{IsCallOfEachWhole}
use Rattle.farm_core.specs.Run.{calls_asked, NobodyElsewhere}
use Rattle.farm_core.proofs.Lists.{own-here, own-there}

-- ---- call by call

-- what was answered so far, and then what a whole farm made of the domains answers to the calls left, is all that
-- is answered
pub record IsToldSoFar (plan : List Place) (told : List Answer) (left all : List (ℕ × Call))
    (domains : List DomainValue) : Type 0 where
  pub farm : Farm
  pub places : all_places domains ≡ plan
  pub made : IsMadeOf plan farm (all_states domains)
  pub told_is : told ++ caller_answers_from plan farm left ≡ caller_answers plan all

-- before the first call nothing was answered, and the whole farm will answer all of it
pub told_nothing : (plan : List Place) (calls : List (ℕ × Call)) (domains : List DomainValue)
    → all_places domains ≡ plan
    → IsMadeOf plan (whole_opening plan) (all_states domains)
    → IsToldSoFar plan [] calls calls domains
told_nothing plan calls domains places made =
    record { farm = whole_opening plan; places = places; made = made; told_is = refl }

-- what holds unless memory was refused holds of an answer that isn't NoMemory
pub but_for_memory : (told : Answer) {P : Type 0} → (told ≡ Err NoMemory → ⊥) → UnlessNoMemory told P → P
but_for_memory (Ok reply) not given = given
but_for_memory (Err NoSuch) not given = given
but_for_memory (Err JournalFull) not given = given
but_for_memory (Err NoMemory) not given = absurd (not refl)

-- a call's answer is the next of those that the whole farm tells
pub told_one_more : (plan : List Place) (told : List Answer) (domain : ℕ) (call : Call) (left all : List (ℕ × Call))
    (domains later : List DomainValue) (answer : Answer)
    → IsToldSoFar plan told ((domain, call) ∷ left) all domains → IsCallOfEachWhole domain call answer domains later
    → all_places later ≡ all_places domains
    → IsToldSoFar plan (told ++ answer ∷ []) left all later
told_one_more plan told domain call left all domains later answer so is places =
    let one = is so.farm (subst (λ p. IsMadeOf p so.farm (all_states domains)) (sym so.places) so.made) in
    let after = (whole_next plan so.farm (domain, call)).0 in
    let same : all_places later ≡ plan = places ∙ so.places in
    let says : answer ≡ lowered_for (slice_get plan domain) (whole_next plan so.farm (domain, call)).1 =
    subst (λ p. answer ≡ lowered_for (slice_get p domain) (whole_next p so.farm (domain, call)).1) so.places
    one.answer in
    let made : IsMadeOf plan after (all_states later) =
    subst (λ p. IsMadeOf p after (all_states later)) same
    (subst (λ p. IsMadeOf (all_places later) (whole_next p so.farm (domain, call)).0 (all_states later)) so.places
    one.made) in
    record {
      farm = after;
      places = same;
      made = made;
      told_is =
          append_assoc told (answer ∷ []) (caller_answers_from plan after left)
          ∙ ap (λ a. told ++ a ∷ caller_answers_from plan after left) says ∙ so.told_is;
    }

-- the answer to the call at an index is the next of those that the whole farm tells
pub told_next : (plan : List Place) (told : List Answer) (asked : List (ℕ × By × Event)) (index : ℕ)
    (pair : ℕ × By × Event) (domains later : List DomainValue) (answer : Answer)
    → index < length asked
    → IsToldSoFar plan told (calls_asked (drop index asked)) (calls_asked asked) domains
    → IsCallOfEachWhole (get_or asked index pair).0
    (record { by = (get_or asked index pair).1; event = (get_or asked index pair).2 }) answer domains later
    → all_places later ≡ all_places domains
    → IsToldSoFar plan (told ++ answer ∷ []) (calls_asked (drop (index + 1) asked)) (calls_asked asked) later
told_next plan told asked index pair domains later answer within so is places =
    let x = get_or asked index pair in
    let left : drop index asked ≡ x ∷ drop (index + 1) asked = rw add-one (drop-cons asked index pair within) in
    told_one_more plan told x.0 (record { by = x.1; event = x.2 }) (calls_asked (drop (index + 1) asked))
    (calls_asked asked) domains later answer
    (subst (λ (rest : List (ℕ × By × Event)). IsToldSoFar plan told (calls_asked rest) (calls_asked asked) domains)
    left so)
    is
    places

-- ---- one answer for each call

length_answers : (plan : List Place) (farm : Farm) (calls : List (ℕ × Call))
    → length (caller_answers_from plan farm calls) ≡ length calls
length_answers plan farm [] = refl
length_answers plan farm (call ∷ calls) = ap suc (length_answers plan (whole_next plan farm call).0 calls)

-- there are as many answers as calls
pub one_answer_each : (plan : List Place) (asked : List (ℕ × By × Event))
    → length (caller_answers plan (calls_asked asked)) ≡ length asked
one_answer_each plan asked = length_answers plan (whole_opening plan) (calls_asked asked) ∙ length-map asked _

-- ---- calls of no domain

abbrev IsNoSuch : Answer → Type 0
IsNoSuch answer = answer ≡ Err NoSuch

none_elsewhere : NoDomainNoChange → (plan : List Place) (farm : Farm) (calls : List (ℕ × Call)) (domain : ℕ)
    → slice_get plan domain ≡ None
    → All IsNoSuch (answers_among domain calls (caller_answers_from plan farm calls))
none_elsewhere law plan farm [] domain none = All-nil IsNoSuch
none_elsewhere law plan farm (call ∷ calls) domain none =
    let after = (whole_next plan farm call).0 in
    let answer = lowered_for (slice_get plan call.0) (whole_next plan farm call).1 in
    let head : ℕ × Answer = (call.0, answer) in
    let rest = zip (map (λ c. c.0) calls) (caller_answers_from plan after calls) in
    let later = none_elsewhere law plan after calls domain none in
    elim (cases_eq call.0 domain) [
      | inl same ↦
          let no_place : slice_get plan call.0 ≡ None = ap (slice_get plan) same ∙ none in
          let told : answer ≡ Err NoSuch =
          ap (λ found. lowered_for found (whole_next plan farm call).1) no_place
          ∙ ap (λ (r : Farm × Answer). r.1) (law plan farm call.0 call.1 no_place) in
          subst (All IsNoSuch) (sym (own-here domain head rest same))
          (All-cons IsNoSuch answer (own domain rest) told later)
      | inr ne ↦ subst (All IsNoSuch) (sym (own-there domain head rest ne)) later
    ]

-- a call of a domain that the plan doesn't have is answered that there is none
pub nobody_elsewhere : NoDomainNoChange → (plan : List DomainData) (calls : List (ℕ × Call))
    → NobodyElsewhere plan calls (caller_answers (places_of plan) calls)
nobody_elsewhere law plan calls domain none =
    none_elsewhere law (places_of plan) (whole_opening (places_of plan)) calls domain none

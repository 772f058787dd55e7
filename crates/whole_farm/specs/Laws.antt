-- In the whole farm each domain is a farm of its own.
use Rattle.std.specs.Prelude.{◌≡◌, ℕ, List, ◌++◌, map, Some, slice_get, AllPairs, All}
use Rattle.std.specs.List.{zip}
use Rattle.plan_rules.specs.Data.{DomainData}
use Rattle.plan_rules.specs.Part.{IsNumbered, AreSeparate, part_of}
use Rattle.plan_rules.specs.Separate.{IsSeparate}
use Rattle.domain_core.specs.PrivateFarm.{Call, Answer, answers, after, opening}
use Rattle.whole_farm.specs.Places.{Place, place_of, places_of, AreSeparatePlaces}
use Rattle.whole_farm.specs.Whole.{Farm, physical_answers, whole_after, whole_opening}
use Rattle.whole_farm.specs.Projection.{projected, lowered_answer, lowered_for, own}
use Rattle.whole_farm.specs.Domains.{DrivesItself}

-- what a domain is answered in a run of the whole farm from its opening, in its own numbers
abbrev pub domain_answers : List Place → List (ℕ × Call) → ℕ → Place → List Answer
domain_answers plan calls domain place =
    map (lowered_answer place) (own domain (physical_answers plan (whole_opening plan) calls))

-- a farm that holds the domain alone and takes its own calls in the same order answers so, and ends so; and no
-- connection of the domain's outputs comes from outside, so that none is hidden from it
pub record IsAlone (plan : List Place) (calls : List (ℕ × Call)) (domain : ℕ) (place : Place) : Type 0 where
  pub told : domain_answers plan calls domain place ≡ answers place.part (opening place.part) (own domain calls)
  pub state : projected place (whole_after plan (whole_opening plan) calls) domain
      ≡ after place.part (opening place.part) (own domain calls)
  pub inside : DrivesItself place.ports (whole_after plan (whole_opening plan) calls).switch

-- in every run of separate places each domain is as if it were alone
abbrev pub EachDomainIsPrivate : Type 0
EachDomainIsPrivate =
    (plan : List Place) (calls : List (ℕ × Call)) (domain : ℕ) (place : Place) → AreSeparatePlaces plan
    → slice_get plan domain ≡ Some place → IsAlone plan calls domain place

-- two farms with equal domains, in ports of their own and beside whatever others, answer these alike, whatever the
-- others call
abbrev pub EqualDomainsAreAnsweredAlike : Type 0
EqualDomainsAreAnsweredAlike =
    (plan other_plan : List Place) (calls other_calls : List (ℕ × Call)) (domain other : ℕ) (place there : Place)
    → AreSeparatePlaces plan → AreSeparatePlaces other_plan
    → slice_get plan domain ≡ Some place → slice_get other_plan other ≡ Some there → place.part ≡ there.part
    → own domain calls ≡ own other other_calls
    → domain_answers plan calls domain place ≡ domain_answers other_plan other_calls other there

-- what all callers are answered from a farm on, in order
abbrev pub caller_answers_from : List Place → Farm → List (ℕ × Call) → List Answer
caller_answers_from plan farm calls =
    map (λ t. lowered_for (slice_get plan t.0) t.1) (physical_answers plan farm calls)

-- what all callers are answered in a run from the opening, in order
abbrev pub caller_answers : List Place → List (ℕ × Call) → List Answer
caller_answers plan calls = caller_answers_from plan (whole_opening plan) calls

-- what the callers of one domain are answered among them
abbrev pub answers_among : ℕ → List (ℕ × Call) → List Answer → List Answer
answers_among domain calls told = own domain (zip (map (λ c. c.0) calls) told)

-- the callers of a domain get the answers that a farm with it alone gives to their calls
abbrev pub EachIsToldPrivately : Type 0
EachIsToldPrivately =
    (plan : List Place) (calls : List (ℕ × Call)) (domain : ℕ) (place : Place) → AreSeparatePlaces plan
    → slice_get plan domain ≡ Some place
    → answers_among domain calls (caller_answers plan calls)
    ≡ answers place.part (opening place.part) (own domain calls)

-- later calls go on from the farm that the earlier ones left
pub record IsOneRun (plan : List Place) (farm : Farm) (calls later : List (ℕ × Call)) : Type 0 where
  pub told : caller_answers_from plan farm (calls ++ later)
      ≡ caller_answers_from plan farm calls ++ caller_answers_from plan (whole_after plan farm calls) later
  pub left : whole_after plan farm (calls ++ later) ≡ whole_after plan (whole_after plan farm calls) later

-- every run can be cut in two
abbrev pub RunsAddUp : Type 0
RunsAddUp = (plan : List Place) (farm : Farm) (calls later : List (ℕ × Call)) → IsOneRun plan farm calls later

-- the places of a plan whose domains are numbered and share no port are separate
abbrev pub NumberedDomainsAreSeparate : Type 0
NumberedDomainsAreSeparate =
    (plan : List DomainData) → All IsNumbered plan → AllPairs AreSeparate plan
    → AreSeparatePlaces (places_of plan)

-- ---- the same of plans, by nothing but the checker's rules

-- under every plan without a fault each domain is as if it were alone
abbrev pub EachDomainOfAPlanIsPrivate : Type 0
EachDomainOfAPlanIsPrivate =
    (plan : List DomainData) (calls : List (ℕ × Call)) (domain : ℕ) (d : DomainData) → IsSeparate plan
    → slice_get plan domain ≡ Some d
    → IsAlone (places_of plan) calls domain (place_of d)

-- and its callers get the answers that a farm with it alone gives to their calls
abbrev pub EachOfAPlanIsToldPrivately : Type 0
EachOfAPlanIsToldPrivately =
    (plan : List DomainData) (calls : List (ℕ × Call)) (domain : ℕ) (d : DomainData) → IsSeparate plan
    → slice_get plan domain ≡ Some d
    → answers_among domain calls (caller_answers (places_of plan) calls)
    ≡ answers (part_of d) (opening (part_of d)) (own domain calls)

-- two plans that agree on a domain answer it alike
abbrev pub EqualDomainsOfPlansAreAnsweredAlike : Type 0
EqualDomainsOfPlansAreAnsweredAlike =
    (plan other_plan : List DomainData) (calls other_calls : List (ℕ × Call)) (domain other : ℕ) (d e : DomainData)
    → IsSeparate plan → IsSeparate other_plan
    → slice_get plan domain ≡ Some d → slice_get other_plan other ≡ Some e → part_of d ≡ part_of e
    → own domain calls ≡ own other other_calls
    → domain_answers (places_of plan) calls domain (place_of d)
    ≡ domain_answers (places_of other_plan) other_calls other (place_of e)

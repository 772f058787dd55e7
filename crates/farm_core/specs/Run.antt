-- A run of a plan: calls of its domains in one order, and the answer to each.
use Rattle.std.specs.Prelude.{◌≡◌, ℕ, List, map, Some, None, Err, slice_get, All}
use Rattle.plan_rules.specs.Data.{DomainData}
use Rattle.domain_core.specs.declared.event.By.{By}
use Rattle.domain_core.specs.declared.event.Event.{Event}
use Rattle.domain_core.specs.declared.event.Refusal.TheVariants.{NoSuch}
use Rattle.domain_core.specs.PrivateFarm.{Answer, Call, answers, opening}
use Rattle.whole_farm.specs.Places.{Place, places_of}
use Rattle.whole_farm.specs.Projection.{own}
use Rattle.whole_farm.specs.Laws.{answers_among}

-- the calls, each with the number of its domain
abbrev pub calls_asked : List (ℕ × By × Event) → List (ℕ × Call)
calls_asked asked = map (λ a. (a.0, record { by = a.1; event = a.2 })) asked

-- each domain of the plan gets the answers that a farm which holds it alone gives to its own calls in the same order
abbrev pub EachToldAlone : List DomainData → List (ℕ × Call) → List Answer → Type 0
EachToldAlone plan calls told =
    (domain : ℕ) (place : Place) → slice_get (places_of plan) domain ≡ Some place
    → answers_among domain calls told ≡ answers place.part (opening place.part) (own domain calls)

-- each call of a domain that isn't in the plan is refused with NoSuch
abbrev pub NobodyElsewhere : List DomainData → List (ℕ × Call) → List Answer → Type 0
NobodyElsewhere plan calls told =
    (domain : ℕ) → slice_get (places_of plan) domain ≡ None
    → All (λ answer. answer ≡ Err NoSuch) (answers_among domain calls told)

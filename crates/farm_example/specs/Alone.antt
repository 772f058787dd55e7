-- What one domain of a plan is answered, as if it were alone.
use Rattle.std.specs.Prelude.{◌≡◌, ℕ, List, Some, slice_get}
use Rattle.plan_rules.specs.Data.{DomainData}
use Rattle.domain_core.specs.PrivateFarm.{Answer, Call, answers, opening}
use Rattle.whole_farm.specs.Places.{Place, places_of}
use Rattle.whole_farm.specs.Projection.{own}

-- a farm that holds this domain of the plan alone answers so to the domain's own calls, in the same order
abbrev pub IsToldAlone : List DomainData → ℕ → List (ℕ × Call) → List Answer → Type 0
IsToldAlone plan domain calls told =
    (place : Place) → slice_get (places_of plan) domain ≡ Some place
    → told ≡ answers place.part (opening place.part) (own domain calls)

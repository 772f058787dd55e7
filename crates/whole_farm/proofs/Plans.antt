-- Plans that break no rule, and the places of their domains, for the law `each_domain_of_a_plan_is_private`.
use Rattle.std.proofs.Common.{◌≡◌, ℕ, Some, List, slice_get, option_map, ap, ◌∙◌}
use Rattle.std.proofs.lemmas.Option.{slice_get-map}
use Rattle.plan_rules.specs.Data.{DomainData}
use Rattle.plan_rules.specs.Laws.{SeparatePlansAreNumbered, SeparatePlansShareNoPort}
use Rattle.plan_rules.specs.Separate.{IsSeparate}
use Rattle.whole_farm.specs.Places.{place_of, places_of, AreSeparatePlaces}
use Rattle.whole_farm.specs.Laws.{EachDomainOfAPlanIsPrivate, EachOfAPlanIsToldPrivately}
use Rattle.whole_farm.specs.Laws.{EqualDomainsOfPlansAreAnsweredAlike}
use Rattle.whole_farm.proofs.Runs.{each_domain_is_private, each_is_told_privately, equal_domains_are_answered_alike}
use Rattle.whole_farm.proofs.Separation.{numbered_domains_are_separate}
use Rattle.crossbar.specs.Laws.{SwitchLaws}

separate_places : SeparatePlansAreNumbered → SeparatePlansShareNoPort → (plan : List DomainData) → IsSeparate plan
    → AreSeparatePlaces (places_of plan)
separate_places numbered apart plan is = numbered_domains_are_separate plan (numbered plan is) (apart plan is)

place_at : (plan : List DomainData) (domain : ℕ) (d : DomainData) → slice_get plan domain ≡ Some d
    → slice_get (places_of plan) domain ≡ Some (place_of d)
place_at plan domain d at = slice_get-map place_of plan domain ∙ ap (option_map place_of) at

-- under every plan without a fault each domain is as if it were alone
pub each_domain_of_a_plan : SwitchLaws → SeparatePlansAreNumbered → SeparatePlansShareNoPort
    → EachDomainOfAPlanIsPrivate
each_domain_of_a_plan laws numbered apart plan calls domain d is at =
    each_domain_is_private laws (places_of plan) calls domain (place_of d) (separate_places numbered apart plan is)
    (place_at plan domain d at)

-- its callers are answered what a farm with it alone answers to their calls
pub each_is_told : SwitchLaws → SeparatePlansAreNumbered → SeparatePlansShareNoPort → EachOfAPlanIsToldPrivately
each_is_told laws numbered apart plan calls domain d is at =
    each_is_told_privately laws (places_of plan) calls domain (place_of d) (separate_places numbered apart plan is)
    (place_at plan domain d at)

-- two plans that agree on a domain answer it alike
pub equal_domains : SwitchLaws → SeparatePlansAreNumbered → SeparatePlansShareNoPort
    → EqualDomainsOfPlansAreAnsweredAlike
equal_domains laws numbered apart plan other_plan calls other_calls domain other d e is other_is at other_at parts
    asked =
    equal_domains_are_answered_alike laws (places_of plan) (places_of other_plan) calls other_calls domain other
    (place_of d) (place_of e) (separate_places numbered apart plan is)
    (separate_places numbered apart other_plan other_is) (place_at plan domain d at)
    (place_at other_plan other e other_at) parts asked

-- The users of a plan: their names and their numbers.
use Rattle.std.specs.Prelude.{ℕ, List, Option, map, option_map, option_and_then, slice_get}
use Rattle.std.specs.List.{flat_map}
use Rattle.plan_rules.specs.Data.{DomainData}
use Rattle.plan_rules.specs.declared.users.UserNumber.{UserNumber}

-- the names of all users of a plan, in its order
abbrev pub all_names : List DomainData → List (List ℕ)
all_names plan = map (λ u. u.name) (flat_map (λ d. d.users) plan)

-- the name of the user of this number in a domain, if it has this user
abbrev pub name_in : DomainData → ℕ → Option (List ℕ)
name_in d user = option_map (λ u. u.name) (slice_get d.users user)

-- the name of a user of a plan, if the plan has this user
abbrev pub name_at : List DomainData → UserNumber → Option (List ℕ)
name_at plan number = option_and_then (λ d. name_in d number.user) (slice_get plan number.domain)

-- The users of a domain: whose a pass is, and how each of them is called.
use Rattle.std.specs.Prelude.{◌≡◌, ℕ, List, Some, slice_get}
use Rattle.std.specs.Borrow.{Bor}
use Rattle.plan_rules.specs.Data.{DomainData}
use Rattle.plan_rules.specs.Users.{name_at}
use Rattle.plan_rules.specs.declared.users.UserNumber.{UserNumber}
use Rattle.farm_service.specs.Passes.{UserPassValue}

-- whose a pass is
abbrev pub user_number_of : UserPassValue → UserNumber
user_number_of pass = record { domain = pass.domain; user = pass.user }

-- each name is that of the user of its place in this domain of a plan
abbrev pub AreTheirNames : List DomainData → ℕ → List (Bor (List ℕ)) → Type 0
AreTheirNames plan domain names =
    (place : ℕ) (name : Bor (List ℕ)) → slice_get names place ≡ Some name
    → name_at plan (record { domain = domain; user = place }) ≡ Some name.now

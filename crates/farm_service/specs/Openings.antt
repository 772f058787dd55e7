-- The domains of a plan as a service is opened on them.
use Rattle.std.specs.Prelude.{ℕ, ◌≡◌, List, Some, length, slice_get}
use Rattle.plan_rules.specs.Data.{DomainData}
use Rattle.domain_core.specs.Domain.{DomainValue, Fits}

-- each domain is that of its place in a plan
abbrev pub AreInPlaces : List DomainData → List DomainValue → Type 0
AreInPlaces plan domains =
    (number : ℕ) (d : DomainValue) → slice_get domains number ≡ Some d → Fits plan number d

-- these are the domains of a plan, in its order
pub record AreDomainsIn (plan : List DomainData) (domains : List DomainValue) : Type 0 where
  pub count : length domains ≡ length plan
  pub each : AreInPlaces plan domains

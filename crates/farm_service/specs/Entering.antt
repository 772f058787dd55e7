-- A domain whose history is done again while the service is open.
use Rattle.std.specs.Prelude.{ℕ, ◌≡◌, Bool, true, false, List, []}
use Rattle.plan_rules.specs.Data.{DomainData}
use Rattle.domain_core.specs.Domain.{DomainValue}
use Rattle.farm_service.specs.Domains.{IsFound}
use Rattle.farm_service.specs.Passes.{SessionValue}
use Rattle.farm_service.specs.Restarts.{AllListed, AreAllOf}

-- the sessions are those of all users of the domain of this number, and its journal has of each user exactly what is in
-- the user's list: the domain has the whole history, or its journal is empty
pub record HasEntered {H : Type 0} (has_redone : H → DomainValue → Type 0) (history : H) (done : Bool)
    (plan : List DomainData) (number : ℕ) (sessions : List SessionValue) : Type 0 where
  pub domain : DomainValue
  pub all : AreAllOf plan number sessions
  pub found : IsFound plan number domain
  pub listed : AllListed domain.journal sessions
  pub redone : done ≡ true → has_redone history domain
  pub begun : done ≡ false → domain.journal ≡ []

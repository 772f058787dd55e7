-- A domain that is restarted, with the sessions of all its users.
use Rattle.std.specs.Prelude.{ℕ, ◌≡◌, List, All, length, Some, slice_get}
use Rattle.plan_rules.specs.Data.{DomainData}
use Rattle.domain_core.specs.declared.journal.Entry.{Entry}
use Rattle.domain_core.specs.Domain.{DomainValue}
use Rattle.farm_service.specs.Closed.{IsListedIn}
use Rattle.farm_service.specs.Domains.{IsFound}
use Rattle.farm_service.specs.Passes.{SessionValue, pass_begun_anew}

-- each session is that of the user of its place in a domain
abbrev pub AreInOrder : ℕ → List SessionValue → Type 0
AreInOrder number sessions =
    (place : ℕ) (s : SessionValue) → slice_get sessions place ≡ Some s
    → (s.pass.domain ≡ number) × (s.pass.user ≡ place)

-- the sessions of all users of this domain of a plan, in their order
pub record AreAllOf (plan : List DomainData) (number : ℕ) (sessions : List SessionValue) : Type 0 where
  pub domain : DomainData
  pub there : slice_get plan number ≡ Some domain
  pub count : length sessions ≡ length domain.users
  pub each : AreInOrder number sessions

-- they are those of all users of some domain
abbrev pub AreAllOfOne : List DomainData → List SessionValue → Type 0
AreAllOfOne plan sessions = (number : ℕ) × AreAllOf plan number sessions

-- the session of a user who hasn't asked anything
abbrev pub begun_anew : SessionValue → SessionValue
begun_anew s = record s { pass = pass_begun_anew s.pass }

-- so it is with each session
abbrev pub AllListed : List Entry → List SessionValue → Type 0
AllListed journal sessions = All (λ s. IsListedIn journal s.pass) sessions

-- the sessions are those of all users of a domain, and it was found with a journal that has of each user exactly what
-- is in the user's list
pub record WereListed (plan : List DomainData) (sessions : List SessionValue) : Type 0 where
  pub number : ℕ
  pub domain : DomainValue
  pub all : AreAllOf plan number sessions
  pub found : IsFound plan number domain
  pub listed : AllListed domain.journal sessions

-- What a farm that stays up is closed with.
use Rattle.std.specs.Prelude.{◌≡◌, ◌<◌, ◌⊎◌, ℕ, List, Some, length, map, slice_get}
use Rattle.plan_rules.specs.Data.{DomainData}
use Rattle.farm_service.specs.declared.closed.ClosedDomain.{ClosedDomain}
use Rattle.farm_service.specs.Passes.{UserPassValue, fresh_passes}
use Rattle.farm_service.specs.Closed.{AreListed, AllMetFullTruly}
use Rattle.live_farm.specs.Asking.{commands_listed}
use Rattle.live_farm.specs.Names.{user_number_of}

-- the passes of a plan's users, in its order: each lists the user's commands in the journal of the user's domain, and
-- nothing else, and has met a full journal only if that one is full
pub record AreUsersListed (plan : List DomainData) (closed : List ClosedDomain) : Type 0 where
  pub passes : List UserPassValue
  pub theirs : map user_number_of passes ≡ map user_number_of (fresh_passes plan)
  pub listed : AreListed closed passes
  pub full : AllMetFullTruly plan closed passes

-- what a call of a record says of a domain of this number of a plan, and of a number of commands
abbrev pub RecordSays : Type 0 → Type 1
RecordSays K = K → List DomainData → ℕ → ℕ → Type 0

-- a domain's record kept all commands that the passes list for this domain, unless it can't be taken
abbrev pub HasListed : {K : Type 0} → RecordSays K → (K → Type 0) → List DomainData → List UserPassValue → ℕ → K
    → Type 0
HasListed has_kept was_out plan passes domain r =
    has_kept r plan domain (commands_listed domain passes) ⊎ was_out r

-- so did the record of the domain of this number, if it has one
abbrev pub HasListedAt : {K : Type 0} → RecordSays K → (K → Type 0) → List DomainData → List UserPassValue → List K → ℕ
    → Type 0
HasListedAt has_kept was_out plan passes records domain =
    (r : _) → slice_get records domain ≡ Some r → HasListed has_kept was_out plan passes domain r

-- so did each domain's record
abbrev pub HaveListed : {K : Type 0} → RecordSays K → (K → Type 0) → List DomainData → List UserPassValue → List K
    → Type 0
HaveListed has_kept was_out plan passes records =
    (domain : ℕ) → domain < length plan → HasListedAt has_kept was_out plan passes records domain

-- the record of the domain of this number, if it has one, was to keep all these commands
abbrev pub WasAskedAt : {K : Type 0} → RecordSays K → List DomainData → List UserPassValue → List K → ℕ → Type 0
WasAskedAt was_asked plan passes records domain =
    (r : _) → slice_get records domain ≡ Some r → was_asked r plan domain (commands_listed domain passes)

-- so was each domain's record, whatever became of the others
abbrev pub AllWereAsked : {K : Type 0} → RecordSays K → List DomainData → List UserPassValue → List K → Type 0
AllWereAsked was_asked plan passes records =
    (domain : ℕ) → domain < length plan → WasAskedAt was_asked plan passes records domain

-- each domain's record kept all commands of the domain's users that are in its journal at the end, unless it can't be
-- taken: the passes of a plan's users list these
pub record AreUsersRecorded {K : Type 0} (has_kept : RecordSays K) (was_out : K → Type 0) (plan : List DomainData)
    (records : List K) (closed : List ClosedDomain) : Type 0 where
  pub passes : List UserPassValue
  pub theirs : map user_number_of passes ≡ map user_number_of (fresh_passes plan)
  pub listed : AreListed closed passes
  pub kept : HaveListed has_kept was_out plan passes records

-- The passes with which a farm is closed are those of its plan's users, and the records have what they list: the
-- clauses `users` and `kept` of `run_live`.
use Rattle.std.proofs.Common.{◌≡◌, ℕ, List, [], ◌∷◌, map, Ok, Err, refl, ap, subst}
use Rattle.std.specs.Prelude.{IfOk, Result}
use Rattle.plan_rules.specs.Data.{DomainData}
use Rattle.farm_service.specs.declared.closed.Closed.{Closed}
use Rattle.farm_service.specs.Closed.{AreListed, AllMetFullTruly}
use Rattle.farm_service.specs.Passes.{UserPassValue, fresh_passes, with_reserved}
use Rattle.plan_rules.specs.declared.users.UserNumber.{UserNumber}
use Rattle.live_farm.specs.Names.{user_number_of}
use Rattle.live_farm.specs.Closings.{RecordSays, HaveListed, AreUsersListed, AreUsersRecorded}

-- whatever they reserve, passes are of the same users
pub same_users : (count : ℕ) (passes : List UserPassValue)
    → map user_number_of (map (with_reserved count) passes) ≡ map user_number_of passes
same_users count [] = refl
same_users count (p ∷ passes) = ap (λ (ns : List UserNumber). user_number_of p ∷ ns) (same_users count passes)

-- if the passes are of the plan's users, and closing vouches for each, it vouches for all users of the plan
pub all_listed : {E : Type 0} (plan : List DomainData) (passes : List UserPassValue) (outcome : Result Closed E)
    → map user_number_of passes ≡ map user_number_of (fresh_passes plan)
    → IfOk outcome (λ closed. AreListed closed.domains.items passes)
    → IfOk outcome (λ closed. AllMetFullTruly plan closed.domains.items passes)
    → IfOk outcome (λ closed. AreUsersListed plan closed.domains.items)
all_listed plan passes (Ok closed) theirs listed full =
    record { passes = passes; theirs = theirs; listed = listed; full = full }
all_listed plan passes (Err e) theirs listed full = tt

-- the same, if what is vouched for speaks of an equal plan
pub all_listed_of : {E : Type 0} (plan other : List DomainData) (passes : List UserPassValue)
    → (outcome : Result Closed E)
    → other ≡ plan
    → map user_number_of passes ≡ map user_number_of (fresh_passes plan)
    → IfOk outcome (λ closed. AreListed closed.domains.items passes)
    → IfOk outcome (λ closed. AllMetFullTruly other closed.domains.items passes)
    → IfOk outcome (λ closed. AreUsersListed plan closed.domains.items)
all_listed_of plan other passes outcome same theirs listed full =
    all_listed plan passes outcome theirs listed
    (subst (λ p. IfOk outcome (λ (closed : Closed). AllMetFullTruly p closed.domains.items passes)) same full)

-- if closing vouches for each of these passes, and each record kept what they list, it kept what the plan's users have
pub all_kept : {E K : Type 0} (has_kept : RecordSays K) (was_out : K → Type 0) (plan : List DomainData)
    (records : List K) (passes : List UserPassValue) (outcome : Result Closed E)
    → map user_number_of passes ≡ map user_number_of (fresh_passes plan)
    → IfOk outcome (λ closed. AreListed closed.domains.items passes)
    → HaveListed has_kept was_out plan passes records
    → IfOk outcome (λ closed. AreUsersRecorded has_kept was_out plan records closed.domains.items)
all_kept has_kept was_out plan records passes (Ok closed) theirs listed kept =
    record { passes = passes; theirs = theirs; listed = listed; kept = kept }
all_kept has_kept was_out plan records passes (Err e) theirs listed kept = tt

-- the same, if what was kept speaks of an equal plan
pub all_kept_of : {E K : Type 0} (has_kept : RecordSays K) (was_out : K → Type 0) (plan other : List DomainData)
    (records : List K) (passes : List UserPassValue) (outcome : Result Closed E)
    → other ≡ plan
    → map user_number_of passes ≡ map user_number_of (fresh_passes plan)
    → IfOk outcome (λ closed. AreListed closed.domains.items passes)
    → HaveListed has_kept was_out other passes records
    → IfOk outcome (λ closed. AreUsersRecorded has_kept was_out plan records closed.domains.items)
all_kept_of has_kept was_out plan other records passes outcome same theirs listed kept =
    all_kept has_kept was_out plan records passes outcome theirs listed
    (subst (λ (p : List DomainData). HaveListed has_kept was_out p passes records) same kept)

-- The passes with which a service is closed are those of the plan's users: the clauses `users` and `screens` of
-- `run_script`.
use Rattle.std.proofs.Common.{◌≡◌, ◌∙◌, ℕ, zero, suc, List, [], ◌∷◌, ◌++◌, length}
use Rattle.std.proofs.Common.{map, Ok, Err, refl, ap, arith}
use Rattle.std.specs.Prelude.{IfOk, Result}
use Rattle.std.proofs.lemmas.List.{map-append}
use Rattle.std.proofs.lemmas.Simd.{map-map}
use Rattle.std.proofs.lemmas.Option.{slice_get_within}
use Rattle.plan_rules.specs.Data.{DomainData}
use Rattle.script_lines.specs.declared.command.Command.{Command}
use Rattle.script_lines.specs.declared.script.ScriptLine.{ScriptLine}
use Rattle.farm_service.specs.declared.closed.ClosedDomain.{ClosedDomain}
use Rattle.farm_service.specs.Passes.{SessionValue, UserPassValue, fresh_pass, passes_opened, passes_from, fresh_passes}
use Rattle.farm_service.specs.Closed.{AreListed}
use Rattle.plan_rules.specs.Users.{all_names}
use Rattle.farm_program.specs.declared.users.UserOutcome.{UserOutcome}
use Rattle.farm_program.specs.Closing.{ArePassesOf, AreAllListed}
use Rattle.farm_program.specs.Users.{commands_at, unasked, IsLeftBy, HaveAnswered}
use Rattle.farm_program.proofs.Openings.{as_many}
use Rattle.farm_program.proofs.Places.{same_lists, there_is}

-- if the passes are the plan's, and closing lists the commands of each, it has listed all users of the plan
pub all_listed : {A E : Type 0} (closed_of : A → List ClosedDomain) (plan : List DomainData)
    (passes : List UserPassValue) (r : Result A E)
    → ArePassesOf plan passes → IfOk r (λ a. AreListed (closed_of a) passes)
    → IfOk r (λ a. AreAllListed plan (closed_of a))
all_listed closed_of plan passes (Ok a) same listed = (passes, same, listed)
all_listed closed_of plan passes (Err e) same listed = tt

fresh_in : (domain count : ℕ) → map unasked (passes_opened domain count) ≡ passes_opened domain count
fresh_in domain zero = refl
fresh_in domain (suc count) =
    map-append unasked (passes_opened domain count) (fresh_pass domain count ∷ [])
    ∙ ap (λ (ps : List UserPassValue). ps ++ fresh_pass domain count ∷ []) (fresh_in domain count)

fresh_from : (number : ℕ) (plan : List DomainData) → map unasked (passes_from number plan) ≡ passes_from number plan
fresh_from number [] = refl
fresh_from number (d ∷ plan) =
    map-append unasked (passes_opened number (length d.users)) (passes_from (suc number) plan)
    ∙ (λ k. fresh_in number (length d.users) k ++ fresh_from (suc number) plan k)

-- a pass that gained answered commands alone is the same user's
same_pass : (plan : List DomainData) (pass : UserPassValue) (name : List ℕ) (commands : List Command)
    (end : UserOutcome)
    → IsLeftBy plan pass name commands end → unasked end.pass ≡ unasked pass
same_pass plan pass name commands end answered =
    ap (λ (s : SessionValue). unasked s.pass) answered.gains.list

-- users of a plan who were all answered leave its passes
pub passes_kept : (plan : List DomainData) (lines : List ScriptLine) (ends : List UserOutcome)
    → HaveAnswered plan lines ends → ArePassesOf plan (map (λ e. e.pass) ends)
passes_kept plan lines ends answered =
    map-map unasked (λ (e : UserOutcome). e.pass) ends
    ∙ same_lists (λ (e : UserOutcome). unasked e.pass) unasked ends (fresh_passes plan) answered.count
    (λ place end pass at_end at_pass.
    let name =
    there_is (all_names plan) place
    (omega (arith, as_many plan, slice_get_within (fresh_passes plan) place pass at_pass)) in
    same_pass plan pass name.0 (commands_at lines place) end
    (answered.each place pass name.0 end at_pass name.1 at_end))
    ∙ fresh_from 0 plan

use Rattle.std.proofs.Common.{◌≡◌, ℤ, [], ◌∷◌, length, rules, ap, ◌∙◌, Some, refl, codes, Vec, Global, All, w64, SFits}
use Rattle.std.proofs.lemmas.Int.{to_z-of_z}
use Rattle.std.proofs.lemmas.Result.{err_from_is_err_and}
use Rattle.toml.specs.Data.{table, integer, string}
use Rattle.plan_rules.specs.declared.plan.NodePlan.{NodePlan}
use Rattle.plan_rules.specs.declared.plan.RangePlan.{RangePlan}
use Rattle.plan_rules.specs.Data.{UserData, DomainData}
use Rattle.plan_checker.specs.declared.version.PlanVersion.TheVariants.{Two}
use Rattle.plan_checker.specs.Document.{list, node, range, domain, hosts_of_first, name_of_first, HasFourLinks, IsWhole}
use Rattle.plan_checker.proofs.DocumentLemmas.{one_user_fields, part_fault, at_field, at_fields, both}
use Rattle.plan_checker.proofs.read.domain_of_one_user.Goals as goal

pub returns-in_err-table : goal.returns-in_err-table
returns-in_err-table c =
    let p = err_from_is_err_and c.from_residual.result c.from_residual.ensures.1 in
    rw (p.1, p.2, c.in_err-table.ensures.0) (λ d whole e. c.in_err-table.ensures.1 _ (e, refl))

pub returns-in_err-limit : goal.returns-in_err-limit
returns-in_err-limit c =
    let p = err_from_is_err_and c.from_residual-in_err-limit.result c.from_residual-in_err-limit.ensures.1 in
    rw (p.1, p.2)
    (part_fault {X = ℤ} (λ _. Unit {0})
    (λ z. Some (integer z)) (λ z. z)
    (IsWhole Two) (domain Two) (λ d. d) _ _ _ (λ (d : DomainData). d.limit)
    (λ d whole e. (at_field _ _ _ (codes "limit") c.in_ok-table.ensures.0 e, tt))
    c.in_err-limit.ensures)

pub returns-in_err-users : goal.returns-in_err-users
returns-in_err-users c =
    let p = err_from_is_err_and c.from_residual-in_err-users.result c.from_residual-in_err-users.ensures.1 in
    rw (p.1, p.2)
    (part_fault {X = Vec UserData Global} (λ us. length us ≡ 1)
    (λ us. Some (list integer (hosts_of_first us)) ∷ Some (string (name_of_first us)) ∷ []) (λ v. v.items)
    (IsWhole Two) (domain Two) (λ d. d) _ _ _ (λ (d : DomainData). d.users)
    (λ d whole e. (at_fields _ _ _ (codes "host") (codes "name") c.in_ok-table.ensures.0 e, whole.0))
    c.in_err-users.ensures)

pub returns-in_err-nodes : goal.returns-in_err-nodes
returns-in_err-nodes c =
    let p = err_from_is_err_and c.from_residual-in_err-nodes.result c.from_residual-in_err-nodes.ensures.1 in
    rw (p.1, p.2)
    (part_fault {X = Vec NodePlan Global} (All HasFourLinks)
    (λ ns. Some (list node ns)) (λ v. v.items)
    (IsWhole Two) (domain Two) (λ d. d) _ _ _ (λ (d : DomainData). d.nodes)
    (λ d whole e. (at_field _ _ _ (codes "node") c.in_ok-table.ensures.0 e, whole.1))
    c.in_err-nodes.ensures)

pub returns-in_err-ranges : goal.returns-in_err-ranges
returns-in_err-ranges c =
    let p = err_from_is_err_and c.from_residual-in_err-ranges.result c.from_residual-in_err-ranges.ensures.1 in
    rw (p.1, p.2)
    (part_fault {X = Vec RangePlan Global} (All (λ _. Unit {0}))
    (λ rs. Some (list range rs)) (λ v. v.items)
    (IsWhole Two) (domain Two) (λ d. d) _ _ _ (λ (d : DomainData). d.ranges)
    (λ d whole e. (at_field _ _ _ (codes "range") c.in_ok-table.ensures.0 e, λ _ _ _. tt))
    c.in_err-ranges.ensures)

pub returns : goal.returns
returns c =
    let limit : SFits w64 c.in_ok-limit.limit = search rules in
    let user = both _ _ _ _ c.in_ok-users.ensures.0 in
    let fields = one_user_fields _ _ _ _ _ _ c.in_ok-table.ensures.1 user.0 c.in_ok-limit.ensures.0 user.1
    c.in_ok-nodes.ensures.0 c.in_ok-ranges.ensures.0 in
    rw (to_z-of_z w64 _ limit)
    (c.in_ok-table.ensures.0 ∙ ap table fields, (c.in_ok-users.ensures.1, c.in_ok-nodes.ensures.1))

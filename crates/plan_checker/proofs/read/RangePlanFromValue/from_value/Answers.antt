use Rattle.std.proofs.Common.{[], ◌∷◌, ℤ, Vec, Global, arith}
use Rattle.std.proofs.lemmas.Result.{err_from_is_err_and}
use Rattle.toml.specs.Data.{integer}
use Rattle.plan_rules.specs.declared.plan.RangePlan.{RangePlan}
use Rattle.plan_checker.specs.Document.{list, range}
use Rattle.plan_checker.proofs.DocumentLemmas.{part_fault, same_length}
use Rattle.plan_checker.proofs.read.RangePlanFromValue.from_value.Goals as goal
use Rattle.plan_checker.proofs.read.RangePlanFromValue.from_value.Goals.{in_default, in_default-2}

pub returns-in_err-ends : goal.returns-in_err-ends
returns-in_err-ends c =
    let p = err_from_is_err_and c.from_residual.result c.from_residual.ensures.1 in
    rw (p.1, p.2)
    (part_fault {X = Vec ℤ Global} (λ _. Unit {0}) (list integer) (λ v. v.items) (λ _. Unit {0}) range (λ r. r) _ _ _
    (λ (r : RangePlan). r.first ∷ r.last ∷ []) (λ r whole e. (e, tt)) c.in_err-ends.ensures)

pub returns : goal.returns
returns c = elim c.if-as_slice-lt2.branch [
  | in_default w ↦
      rw w.result-is
      (λ (r : RangePlan) whole e. omega (
        arith,
        same_length integer _ c.in_ok-ends.ends.items
            (r.first ∷ r.last ∷ []) c.in_ok-ends.ensures.0 e,
        c.as_slice.ensures.len,
      ))
  | in_default-2 w ↦
      rw w.result-is
      (λ (r : RangePlan) whole e. omega (
        arith,
        same_length integer _ c.in_ok-ends.ends.items
            (r.first ∷ r.last ∷ []) c.in_ok-ends.ensures.0 e,
        c.as_slice.ensures.len,
      ))
]

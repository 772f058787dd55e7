use Rattle.std.proofs.Common.{refl}
use Rattle.std.proofs.lemmas.Result.{err_from_is_err_and}
use Rattle.plan_checker.proofs.DocumentLemmas.{whole_user}
use Rattle.plan_checker.proofs.read.UserPlanFromValue.from_value.Goals as goal

pub returns-in_err-table : goal.returns-in_err-table
returns-in_err-table c =
    let p = err_from_is_err_and c.from_residual.result c.from_residual.ensures.1 in
    rw (p.1, p.2, c.in_err-table.ensures.0) (λ u whole e. c.in_err-table.ensures.1 _ (e, refl))

pub returns : goal.returns
returns c = whole_user _ _ _ c.in_ok-table.ensures.0 c.in_ok-table.ensures.1 c.user_of.ensures

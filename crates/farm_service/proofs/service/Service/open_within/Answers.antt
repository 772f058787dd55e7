use Rattle.std.proofs.Common.{◌∙◌, ap}
use Rattle.std.proofs.lemmas.Result.{IfOk-from_err, IfOk-weaker}
use Rattle.farm_service.proofs.service.Service.open_within.Goals as goal

pub returns-clause-workers : goal.returns-clause-workers
returns-clause-workers g c = c.of.ensures.workers

pub returns-clause-users : goal.returns-clause-users
returns-clause-users g c =
    IfOk-weaker c.of.result _ _ (λ opened same. ap (λ users. users.items) same ∙ c.in_ok-users.ensures)
    c.of.ensures.users

pub returns-clause-operator : goal.returns-clause-operator
returns-clause-operator g c = IfOk-weaker c.of.result _ _ (λ opened both. both.0) c.of.ensures.operator

pub returns-clause-seen : goal.returns-clause-seen
returns-clause-seen g c = IfOk-weaker c.of.result _ _ (λ opened both. both.1) c.of.ensures.operator

pub returns-clause-err : goal.returns-clause-err
returns-clause-err g c = c.of.ensures.err

pub returns-in_err-users-clause-plan : goal.returns-in_err-users-clause-plan
returns-in_err-users-clause-plan g c = IfOk-from_err c.from_residual.result _ c.from_residual.ensures.0

pub returns-in_err-users-clause-users : goal.returns-in_err-users-clause-users
returns-in_err-users-clause-users g c = IfOk-from_err c.from_residual.result _ c.from_residual.ensures.0

pub returns-in_err-users-clause-workers : goal.returns-in_err-users-clause-workers
returns-in_err-users-clause-workers g c = IfOk-from_err c.from_residual.result _ c.from_residual.ensures.0

pub returns-in_err-users-clause-passes : goal.returns-in_err-users-clause-passes
returns-in_err-users-clause-passes g c = IfOk-from_err c.from_residual.result _ c.from_residual.ensures.0

pub returns-in_err-users-clause-operator : goal.returns-in_err-users-clause-operator
returns-in_err-users-clause-operator g c = IfOk-from_err c.from_residual.result _ c.from_residual.ensures.0

pub returns-in_err-users-clause-seen : goal.returns-in_err-users-clause-seen
returns-in_err-users-clause-seen g c = IfOk-from_err c.from_residual.result _ c.from_residual.ensures.0

pub returns-in_err-domains-clause-plan : goal.returns-in_err-domains-clause-plan
returns-in_err-domains-clause-plan g c =
    IfOk-from_err c.from_residual-in_err-domains.result _ c.from_residual-in_err-domains.ensures.0

pub returns-in_err-domains-clause-users : goal.returns-in_err-domains-clause-users
returns-in_err-domains-clause-users g c =
    IfOk-from_err c.from_residual-in_err-domains.result _ c.from_residual-in_err-domains.ensures.0

pub returns-in_err-domains-clause-workers : goal.returns-in_err-domains-clause-workers
returns-in_err-domains-clause-workers g c =
    IfOk-from_err c.from_residual-in_err-domains.result _ c.from_residual-in_err-domains.ensures.0

pub returns-in_err-domains-clause-passes : goal.returns-in_err-domains-clause-passes
returns-in_err-domains-clause-passes g c =
    IfOk-from_err c.from_residual-in_err-domains.result _ c.from_residual-in_err-domains.ensures.0

pub returns-in_err-domains-clause-operator : goal.returns-in_err-domains-clause-operator
returns-in_err-domains-clause-operator g c =
    IfOk-from_err c.from_residual-in_err-domains.result _ c.from_residual-in_err-domains.ensures.0

pub returns-in_err-domains-clause-seen : goal.returns-in_err-domains-clause-seen
returns-in_err-domains-clause-seen g c =
    IfOk-from_err c.from_residual-in_err-domains.result _ c.from_residual-in_err-domains.ensures.0

use Rattle.farm_cli.proofs.PlanFailures.{refusal_handed_on}
use Rattle.farm_cli.proofs.reading.plan_of.Goals as goal

pub returns-in_err-accept_plan-clause-fault : goal.returns-in_err-accept_plan-clause-fault
returns-in_err-accept_plan-clause-fault c =
    refusal_handed_on _ c.args.text.now _ c.from_residual.ensures.1 c.in_err-accept_plan.ensures.refused

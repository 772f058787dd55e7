use Rattle.std.proofs.Common.{rules}
use Rattle.plan_rules.specs.declared.fault.PlanFault.TheVariants.{UserCount}
use Rattle.farm_service.proofs.Restarts.{some_user}
use Rattle.farm_service.proofs.restarting.domain_of_all.Goals as goal

pub returns-in_default : goal.returns-in_default
returns-in_default c =
    some_user c.args.plan.now c.args.sessions.now (c.separate_law.ensures.plan UserCount) (search rules)

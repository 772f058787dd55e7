use Rattle.std.proofs.Common.{rules}
use Rattle.plan_rules.specs.declared.fault.PlanFault.TheVariants.{DomainCount}
use Rattle.plan_rules.proofs.accepted.AcceptedPlan.domains.Goals as goal

pub overflow_cast-result : goal.overflow_cast-result
overflow_cast-result c = let few = c.self.invariant.separate DomainCount in search rules

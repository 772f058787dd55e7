use Rattle.plan_rules.proofs.SeparateLemmas.{all_numbered, all_separate}
use Rattle.plan_rules.proofs.accepted.AcceptedPlan.separate_law.Goals as goal

pub returns-clause-own : goal.returns-clause-own
returns-clause-own c = rw (← c.self.view_is) (all_numbered _ c.self.invariant.separate)

pub returns-clause-apart : goal.returns-clause-apart
returns-clause-apart c = rw (← c.self.view_is) (all_separate _ c.self.invariant.separate)

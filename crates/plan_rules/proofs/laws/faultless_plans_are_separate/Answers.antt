use Rattle.plan_rules.proofs.SeparateLemmas.{all_numbered, all_separate, all_parts}
use Rattle.plan_rules.proofs.laws.faultless_plans_are_separate.Goals as goal

pub returns : goal.returns
returns c = record { numbered = all_numbered; apart = all_separate; parts = all_parts }

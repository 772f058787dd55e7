use Rattle.std.proofs.Common.{ℤ}
use Rattle.toml.specs.Data.{integer}
use Rattle.plan_checker.proofs.DocumentLemmas.{in_field}
use Rattle.plan_checker.proofs.values.integer_at.Goals as goal

pub returns : goal.returns
returns c = in_field {Y = ℤ} (λ _. Unit {0}) integer (λ z. z) _ _ _ c.in_ok-value_at.ensures c.integer_of.ensures

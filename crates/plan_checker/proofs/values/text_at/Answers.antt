use Rattle.std.proofs.Common.{ℕ, List, string_bytes}
use Rattle.toml.specs.Data.{string}
use Rattle.plan_checker.proofs.DocumentLemmas.{in_field}
use Rattle.plan_checker.proofs.values.text_at.Goals as goal

pub returns : goal.returns
returns c = in_field {Y = List ℕ} (λ _. Unit {0}) string string_bytes _ _ _ c.in_ok-value_at.ensures c.text_of.ensures

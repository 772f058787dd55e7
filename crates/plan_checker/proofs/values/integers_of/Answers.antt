use Rattle.std.proofs.Common.{ℤ}
use Rattle.toml.specs.Data.{integer}
use Rattle.plan_checker.proofs.DocumentLemmas.{any_items}
use Rattle.plan_checker.proofs.values.integers_of.Goals as goal

pub returns : goal.returns
returns c = any_items {X = ℤ} integer _ _ c.list_of.ensures

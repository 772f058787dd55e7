use Rattle.std.proofs.Common.{All}
use Rattle.plan_checker.specs.Document.{list}
use Rattle.plan_checker.proofs.DocumentLemmas.{in_field}
use Rattle.plan_checker.proofs.values.list_at.Goals as goal

pub returns : goal.returns
returns g c =
    in_field (All (g.T.FromValue.is_whole c.args.version)) (list (g.T.FromValue.spelling c.args.version))
    (λ v. v.items) _ _ _ c.in_ok-value_at.ensures c.list_of.ensures

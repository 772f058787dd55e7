use Rattle.std.proofs.Common.{rules}
use Rattle.plan_rules.proofs.NameLemmas.{domain_names}
use Rattle.plan_rules.proofs.accepted.AcceptedPlan.names.Goals as goal

pub loop-domain-preserved : goal.loop-domain-preserved
loop-domain-preserved c =
    domain_names c.args.self.now c.loop-domain.domain c.loop-domain.names.items c.add_names.new.names.items
    (search rules) c.loop-domain.invariant c.in_ok-add_names.ensures

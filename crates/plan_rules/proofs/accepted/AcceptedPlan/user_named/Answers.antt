use Rattle.std.proofs.Common.{rules, ◌≡◌, ◌∙◌}
use Rattle.plan_rules.proofs.UserLemmas.{others_at_have_other_names, nobody_at, has_name_at}
use Rattle.plan_rules.proofs.accepted.AcceptedPlan.user_named.Goals as goal

pub returns-in-Some : goal.returns-in-Some
returns-in-Some c =
    has_name_at c.args.self.now c.loop-domain.domain _ c.args.name.now (search rules) c.in-Some.ensures

pub loop-domain-preserved : goal.loop-domain-preserved
loop-domain-preserved c =
    others_at_have_other_names c.args.self.now c.loop-domain.domain c.args.name.now c.loop-domain.invariant
    c.in_default.ensures

pub returns : goal.returns
returns c =
    nobody_at c.args.self.now c.args.name.now c.domains-domain-end.result c.loop-domain.domain
    c.domains-domain-end.ensures.count c.loop-domain-test.false c.loop-domain.invariant

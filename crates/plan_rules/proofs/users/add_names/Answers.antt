use Rattle.std.proofs.Common.{rules}
use Rattle.plan_rules.proofs.NameLemmas.{name_more}
use Rattle.plan_rules.proofs.users.add_names.Goals as goal

pub loop-user-preserved : goal.loop-user-preserved
loop-user-preserved c =
    name_more _ c.loop-user.names.items c.push.new.self.items _ c.loop-user.user c.name.result (search rules)
    c.name.ensures c.in_ok-push.ensures.items c.loop-user.invariant

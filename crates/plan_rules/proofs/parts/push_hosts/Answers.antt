use Rattle.std.proofs.Common.{◌++◌, map, pos, get_or, ap, ◌∙◌, rules, w64, SFits}
use Rattle.std.proofs.lemmas.Int.{to_z-of_z}
use Rattle.plan_rules.specs.Data.{UserData}
use Rattle.plan_rules.specs.Part.{host_part}
use Rattle.plan_rules.proofs.ListLemmas.{mapped_behind, at_end}
use Rattle.plan_rules.proofs.parts.push_hosts.Goals as goal

pub loop-port-preserved : goal.loop-port-preserved
loop-port-preserved c =
    let fits : SFits w64 (get_or c.deref-port-items.result.now c.loop-port.port-index (pos 0)) = search rules in
    rw (c.in_ok-push.ensures.items, to_z-of_z w64 _ fits)
    (mapped_behind (host_part c.args.number) c.args.hosts.now.items c.deref-port-items.result.now
    c.loop-port.port-index (pos 0) _ c.loop-port-test.true c.loop-port.invariant)

pub returns : goal.returns
returns c =
    at_end (λ ports. c.args.hosts.now.items ++ map (host_part c.args.number) ports) c.deref-port-items.result.now
    c.loop-port.port-index _ c.loop-port-test.false c.loop-port.invariant
    ∙ ap (λ ports. c.args.hosts.now.items ++ map (host_part c.args.number) ports)
    (c.deref-port-items.ensures.value ∙ ap (λ (u : UserData). u.hosts) c.user.view_is)

pub overflow_cast-port : goal.overflow_cast-port
overflow_cast-port c =
    let fits : SFits w64 (get_or c.deref-port-items.result.now c.loop-port.port-index (pos 0)) = search rules in
    let all = rw (← c.user.view_is) at c.requires in
    let lies =
    (rw (← c.deref-port-items.ensures.value) at all) c.loop-port.port-index (pos 0) c.loop-port-test.true in
    rw (to_z-of_z w64 _ fits) (search rules)

use Rattle.std.proofs.Common.{[], ◌++◌, ap, ◌∙◌, flat_map}
use Rattle.plan_rules.specs.Data.{UserData, DomainData}
use Rattle.plan_rules.specs.Separate.{wired_links, hosts_of}
use Rattle.plan_rules.proofs.ListLemmas.{added_more, at_end}
use Rattle.plan_rules.proofs.ports.used_ports.Goals as goal

pub loop-user-preserved : goal.loop-user-preserved
loop-user-preserved c =
    c.in_ok-extend_from_slice.ensures.items
    ∙ ap (λ hosts. c.loop-user.ports.items ++ hosts)
    (c.as_slice.ensures.value ∙ ap (λ (u : UserData). u.hosts) (c.user.view_is ∙ c.user-item.is))
    ∙ added_more (λ (u : UserData). u.hosts) [] c.deref-user-items.result.now c.loop-user.user-index _ _
    c.loop-user-test.true c.loop-user.invariant

pub loop-node-preserved : goal.loop-node-preserved
loop-node-preserved c =
    c.in_ok-push_wired.ensures
    ∙ added_more wired_links (hosts_of c.args.domain.now) c.deref-node-items.result.now c.loop-node.node-index _ _
    c.loop-node-test.true c.loop-node.invariant

pub returns : goal.returns
returns c =
    at_end (λ nodes. hosts_of c.args.domain.now ++ flat_map wired_links nodes) c.deref-node-items.result.now
    c.loop-node.node-index _ c.loop-node-test.false c.loop-node.invariant
    ∙ ap (λ nodes. hosts_of c.args.domain.now ++ flat_map wired_links nodes)
    (c.deref-node-items.ensures.value ∙ ap (λ (d : DomainData). d.nodes) c.domain.view_is)

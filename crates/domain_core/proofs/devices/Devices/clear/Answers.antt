use Rattle.std.proofs.Common.{◌≡◌, ◌∙◌, ap, sym, length, map, arith}
use Rattle.std.specs.Vec.{with_items}
use Rattle.std.proofs.lemmas.List.{with_items_is}
use Rattle.bootstrap.specs.declared.node.Node.{Node}
use Rattle.bootstrap.specs.Opening.{opened_node}
use Rattle.domain_core.specs.Hosts.{opened_host}
use Rattle.domain_core.specs.Hosts.{HostState}
use Rattle.domain_core.specs.Devices.{DeviceStates, reopened}
use Rattle.domain_core.proofs.Lists.{changed_more, changed_whole}
use Rattle.domain_core.proofs.Sizes.{reopened_by}
use Rattle.domain_core.proofs.devices.Devices.clear.Goals as goal

pub loop-node-preserved : goal.loop-node-preserved
loop-node-preserved c =
    changed_more (λ (n : Node). opened_node (length n.memory)) c.loop-node.node-index c.deref_mut-node-items.result.now
    c.loop-node.node-items c.node-item.result c.clear_node.new.home c.loop-node.invariant c.node-item.is
    (c.clear_node.ensures ∙ ap (λ (n : Node). opened_node (length n.memory)) (sym c.node-item.is))

pub loop-host-preserved : goal.loop-host-preserved
loop-host-preserved c =
    changed_more (λ (h : HostState). opened_host) c.loop-host.host-index c.deref_mut-host-items.result.now
    c.loop-host.host-items c.host-item.result c.clear.new.self c.loop-host.invariant c.host-item.is c.clear.ensures

pub returns : goal.returns
returns c =
    let d : DeviceStates = record { nodes = c.self.inside.nodes.items; hosts = c.self.inside.hosts.items } in
    let nodes : (with_items c.self.inside.nodes c.loop-node.node-items).items
    ≡ map (λ n. opened_node (length n.memory)) d.nodes =
    with_items_is c.self.inside.nodes c.loop-node.node-items
    (c.loop-node.auto.node-items ∙ ap length c.deref_mut-node-items.ensures.value ∙ sym c.self.inside.nodes.ok.0)
    ∙ changed_whole (λ (n : Node). opened_node (length n.memory)) c.loop-node.node-index
    c.deref_mut-node-items.result.now c.loop-node.node-items c.loop-node.invariant
    (omega (arith, c.loop-node-test.false, c.loop-node.auto.node-index-end))
    ∙ ap (map (λ (n : Node). opened_node (length n.memory))) c.deref_mut-node-items.ensures.value in
    let hosts : (with_items c.self.inside.hosts c.loop-host.host-items).items ≡ map (λ h. opened_host) d.hosts =
    with_items_is c.self.inside.hosts c.loop-host.host-items
    (c.loop-host.auto.host-items ∙ ap length c.deref_mut-host-items.ensures.value ∙ sym c.self.inside.hosts.ok.0)
    ∙ changed_whole (λ (h : HostState). opened_host) c.loop-host.host-index c.deref_mut-host-items.result.now
    c.loop-host.host-items c.loop-host.invariant
    (omega (arith, c.loop-host-test.false, c.loop-host.auto.host-index-end))
    ∙ ap (map (λ (h : HostState). opened_host)) c.deref_mut-host-items.ensures.value in
    reopened_by d (with_items c.self.inside.nodes c.loop-node.node-items).items
    (with_items c.self.inside.hosts c.loop-host.host-items).items nodes hosts
    ∙ ap reopened c.self.view_is

use Rattle.std.proofs.Common.{refl, sym, ap, ◌∙◌, length, ◌≡◌}
use Rattle.bootstrap.specs.declared.node.Node.{Node}
use Rattle.domain_core.specs.Devices.{node_at, with_node}
use Rattle.domain_core.specs.MachineValue.{MachineValue}
use Rattle.domain_core.proofs.Sizes.{still_of_part, large_by, large_with_node}
use Rattle.domain_core.proofs.machine.RunningMachine.commit_node.Goals as goal

pub invariant_of-self : goal.invariant_of-self
invariant_of-self g c =
    let v : MachineValue =
    record { part = c.self.inside.part; switch = c.self.inside.switch; devices = c.self.inside.devices } in
    let same : length c.args.ticket.now.node.memory ≡ length (node_at v.devices c.args.ticket.now.number).memory =
    c.requires.size ∙ ap (λ (n : Node). length n.memory) (sym c.requires.start)
    ∙ ap (λ (w : MachineValue). length (node_at w.devices c.args.ticket.now.number).memory) (sym c.self.view_is) in (
      still_of_part v v.switch c.commit_node.new.self c.self.invariant.0 refl
          (large_by v.devices (with_node c.args.ticket.now.number c.args.ticket.now.node v.devices)
          c.commit_node.new.self
          c.commit_node.ensures.home (large_with_node v.devices c.args.ticket.now.number c.args.ticket.now.node same)),
      c.self.invariant.1,
    )

use Rattle.std.proofs.Common.{refl}
use Rattle.bootstrap.specs.declared.node.Node.{Node}
use Rattle.bootstrap.specs.Steps.{after_steps}
use Rattle.domain_core.specs.Devices.{node_at, with_node}
use Rattle.domain_core.specs.MachineValue.{MachineValue}
use Rattle.domain_core.proofs.Sizes.{still_of_part, large_by, large_with_node}
use Rattle.domain_core.proofs.machine.RunningMachine.burst.Goals as goal

pub invariant_of-self : goal.invariant_of-self
invariant_of-self g c =
    let v : MachineValue =
    record { part = c.self.inside.part; switch = c.self.inside.switch; devices = c.self.inside.devices } in
    let n : Node = after_steps c.burst.result.steps (node_at v.devices c.args.node) in (
      still_of_part v v.switch c.burst.new.self c.self.invariant.0 refl
          (large_by v.devices (with_node c.args.node n v.devices) c.burst.new.self c.burst.ensures.state
          (large_with_node v.devices c.args.node n
          (c.steps_keep_the_size.ensures.several c.burst.result.steps (node_at v.devices c.args.node)))),
      c.self.invariant.1,
    )

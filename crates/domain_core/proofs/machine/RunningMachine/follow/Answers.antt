use Rattle.std.proofs.Common.{refl, subst, sym, ap, ◌∙◌}
use Rattle.std.specs.List.{range_with_len}
use Rattle.domain_core.specs.declared.moves.Route.{Route}
use Rattle.domain_core.specs.Devices.{DeviceStates, HasDevice, taken_from_device}
use Rattle.domain_core.specs.MachineValue.{MachineValue}
use Rattle.domain_core.specs.Moves.{copies_arrived, joining_of}
use Rattle.domain_core.specs.Routes.{HasItsDevice, marked_by, route_leaves}
use Rattle.domain_core.proofs.Outcomes.{of_part_nodes}
use Rattle.domain_core.proofs.Sizes.{still_of_part, large_by, large_taken, large_gone}
use Rattle.domain_core.proofs.machine.RunningMachine.follow.Goals as goal

pub invariant_of-self : goal.invariant_of-self
invariant_of-self g c =
    let v : MachineValue =
    record { part = c.self.inside.part; switch = c.self.inside.switch; devices = c.self.inside.devices } in (
      still_of_part v v.switch c.take.new.self c.self.invariant.0 refl
          (large_by v.devices (taken_from_device c.in-Lost.device v.devices) c.take.new.self c.take.ensures.state
          (large_taken v.devices c.in-Lost.device)),
      c.self.invariant.1,
    )

pub invariant_of-self-in-Passed : goal.invariant_of-self-in-Passed
invariant_of-self-in-Passed g c =
    let v : MachineValue =
    record { part = c.self.inside.part; switch = c.self.inside.switch; devices = c.self.inside.devices } in (
      still_of_part v v.switch c.copy_to.new.devices c.self.invariant.0 refl
          (large_gone v.part c.in-Passed.device c.in-Passed.packet
          (marked_by c.in-Passed.outputs (range_with_len 0 v.part.count)) v.devices c.take-in-Passed.new.self
          c.copy_to.new.devices c.take-in-Passed.ensures.state c.copy_to.ensures),
      c.self.invariant.1,
    )

pub take-requires : goal.take-requires
take-requires g c =
    subst (λ (m : MachineValue). HasDevice m.devices c.in-Lost.device) (sym c.self.view_is)
    (subst (λ (r : Route). HasItsDevice c.args.self.now.devices r) c.in-Lost.is c.requires)

pub copy_to-requires : goal.copy_to-requires
copy_to-requires g c =
    let v : MachineValue =
    record { part = c.self.inside.part; switch = c.self.inside.switch; devices = c.self.inside.devices } in
    record {
      few = c.self.invariant.0.few;
      joined = c.self.invariant.1;
      nodes = c.take-in-Passed.ensures.nodes ∙ of_part_nodes v c.self.invariant.0;
      hosts = c.take-in-Passed.ensures.hosts ∙ c.self.invariant.0.hosts;
    }

pub returns-in-Lost : goal.returns-in-Lost
returns-in-Lost g c =
    let v : MachineValue =
    record { part = c.self.inside.part; switch = c.self.inside.switch; devices = c.self.inside.devices } in
    let back = sym c.in-Lost.is in
    ap (λ (d : DeviceStates). let m : MachineValue = record v { devices = d } in m) c.take.ensures.state
    ∙ (λ i. record (c.self.view_is i) {
      devices = route_leaves (c.self.view_is i).part (back i) (c.self.view_is i).devices;
    })

pub returns-in-Passed : goal.returns-in-Passed
returns-in-Passed g c =
    let v : MachineValue =
    record { part = c.self.inside.part; switch = c.self.inside.switch; devices = c.self.inside.devices } in
    let back = sym c.in-Passed.is in
    ap (λ (d : DeviceStates). let m : MachineValue = record v { devices = d } in m)
    (c.copy_to.ensures
    ∙ ap (λ (d : DeviceStates).
    copies_arrived (joining_of v.part) c.in-Passed.packet
    (marked_by c.in-Passed.outputs (range_with_len 0 v.part.count)) d)
    c.take-in-Passed.ensures.state)
    ∙ (λ i. record (c.self.view_is i) {
      devices = route_leaves (c.self.view_is i).part (back i) (c.self.view_is i).devices;
    })

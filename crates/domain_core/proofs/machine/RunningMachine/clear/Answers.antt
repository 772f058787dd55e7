use Rattle.std.proofs.Common.{ap, ◌∙◌, length, []}
use Rattle.crossbar.specs.Switch.{cleared}
use Rattle.virtual_switch.specs.SwitchValue.{SwitchValue, private_of}
use Rattle.domain_core.specs.Devices.{reopened, opened_devices}
use Rattle.domain_core.specs.Machine.{fresh_machine}
use Rattle.domain_core.specs.MachineValue.{MachineValue}
use Rattle.domain_core.proofs.Sizes.{still_of_part, large_by, large_reopened, reopened_opened, machine_by}
use Rattle.domain_core.proofs.machine.RunningMachine.clear.Goals as goal

pub invariant_of-self : goal.invariant_of-self
invariant_of-self g c =
    let v : MachineValue =
    record { part = c.self.inside.part; switch = c.self.inside.switch; devices = c.self.inside.devices } in (
      still_of_part v c.clear.new.self c.clear-2.new.self c.self.invariant.0 (ap length c.clear.ensures.kept.ports)
          (large_by v.devices (reopened v.devices) c.clear-2.new.self c.clear-2.ensures (large_reopened v.devices)),
      c.self.invariant.1,
    )

pub returns-clause-state : goal.returns-clause-state
returns-clause-state g c =
    let v : MachineValue =
    record { part = c.self.inside.part; switch = c.self.inside.switch; devices = c.self.inside.devices } in
    machine_by (private_of c.clear.new.self) cleared c.clear.new.self.rest [] c.clear-2.new.self (opened_devices v.part)
    c.clear.ensures.switch (ap (λ (s : SwitchValue). s.rest) c.clear.ensures.left)
    (c.clear-2.ensures ∙ reopened_opened v c.self.invariant.0)
    ∙ ap (λ (w : MachineValue). fresh_machine w.part) c.self.view_is

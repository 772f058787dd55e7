use Rattle.std.proofs.Common.{ap, ◌∙◌, length, rules}
use Rattle.virtual_switch.specs.SwitchValue.{SwitchValue}
use Rattle.domain_core.proofs.Sizes.{opened_of_part}
use Rattle.domain_core.proofs.machine.RunningMachine.open.Goals as goal

pub invariant_of-result : goal.invariant_of-result
invariant_of-result g c = (
  opened_of_part c.args.part c.new.result c.in_ok-devices.devices (search rules)
      (ap (λ (s : SwitchValue). length s.ports) c.new.ensures.seen ∙ c.requires.count) c.in_ok-devices.ensures,
  c.table_of-table.ensures,
)

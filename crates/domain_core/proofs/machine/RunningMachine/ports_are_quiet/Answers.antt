use Rattle.std.proofs.Common.{rules, ◌≡◌, false}
use Rattle.domain_core.specs.declared.event.Event.TheVariants.{Move}
use Rattle.domain_core.specs.Machine.{is_recorded}
use Rattle.domain_core.specs.MachineValue.{machine_of}
use Rattle.domain_core.proofs.machine.RunningMachine.ports_are_quiet.Goals as goal

pub returns-then-not-port_is_quiet-clause-quiet : goal.returns-then-not-port_is_quiet-clause-quiet
returns-then-not-port_is_quiet-clause-quiet g c = (
  λ t. absurd (search rules),
  λ all. absurd (
      let quiet : is_recorded c.loop-port.self.part (machine_of c.loop-port.self) (Move c.loop-port.port) ≡ false =
      search (rules, all c.loop-port.port) in
      search (rules, quiet)),
)

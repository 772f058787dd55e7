use Rattle.std.proofs.Common.{◌≡◌, ◌<◌, ℕ, false}
use Rattle.domain_core.specs.declared.event.Event.TheVariants.{Move}
use Rattle.domain_core.specs.Machine.{is_recorded}
use Rattle.domain_core.specs.MachineValue.{machine_of}
use Rattle.domain_core.proofs.machine.RunningMachine.ports_are_quiet.Given as goal

abbrev pub invariant-loop-port : goal.invariant-loop-port
invariant-loop-port g l =
    (l.self ≡ l.fn.self) × ((p : ℕ) → p < l.port → is_recorded l.fn.self.part (machine_of l.fn.self) (Move p) ≡ false)

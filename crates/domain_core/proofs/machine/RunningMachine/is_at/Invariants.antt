use Rattle.std.proofs.Common.{◌≡◌, ◌<◌, ℕ, get_or}
use Rattle.domain_core.proofs.machine.RunningMachine.is_at.Given as goal

abbrev pub invariant-loop-port : goal.invariant-loop-port
invariant-loop-port g l = (p : ℕ) → p < l.port → get_or l.ports p 0 ≡ get_or l.self.switch.ports p 0

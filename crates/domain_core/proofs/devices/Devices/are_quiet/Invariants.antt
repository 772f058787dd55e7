use Rattle.std.proofs.Common.{◌≡◌, ◌<◌, ℕ, false}
use Rattle.bootstrap.specs.Step.{is_step_recorded}
use Rattle.domain_core.specs.Devices.{node_at}
use Rattle.domain_core.proofs.devices.Devices.are_quiet.Given as goal

abbrev pub invariant-loop-node : goal.invariant-loop-node
invariant-loop-node l = (k : ℕ) → k < l.node-index → is_step_recorded (node_at l.self k) ≡ false

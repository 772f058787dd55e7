use Rattle.std.proofs.Common.{◌≡◌, ◌<◌, ℕ, Some}
use Rattle.domain_core.specs.Devices.{device_at}
use Rattle.node_causes.proofs.passage.port_of.Given as goal

-- no port so far is that of the device
abbrev pub invariant-loop-port : goal.invariant-loop-port
invariant-loop-port l = (p : ℕ) → p < l.port → ¬ (device_at l.fn.part p ≡ Some l.fn.device)

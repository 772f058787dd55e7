use Rattle.std.proofs.Common.{take, All}
use Rattle.plan_rules.specs.Separate.{IsVirtualPort}
use Rattle.plan_rules.proofs.ports.has_virtual_ports.Given as goal

abbrev pub invariant-loop-port : goal.invariant-loop-port
invariant-loop-port l = All (IsVirtualPort l.ranges) (take l.port-index l.ports)

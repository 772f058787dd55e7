use Rattle.std.proofs.Common.{take, All}
use Rattle.plan_rules.specs.Separate.{IsVirtualPort, used_ports}
use Rattle.plan_rules.proofs.ports.have_virtual_ports.Given as goal

abbrev pub invariant-loop-domain : goal.invariant-loop-domain
invariant-loop-domain l = All (λ d. All (IsVirtualPort d.ranges) (used_ports d)) (take l.domain-index l.domains)

use Rattle.std.proofs.Common.{◌≡◌, map, take}
use Rattle.plan_rules.specs.Part.{physical_ports}
use Rattle.plan_rules.proofs.row.ports_of.Given as goal

abbrev pub invariant-loop-domain : goal.invariant-loop-domain
invariant-loop-domain l = l.ports.items ≡ map physical_ports (take l.domain-index l.domains)

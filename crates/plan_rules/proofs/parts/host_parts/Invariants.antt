use Rattle.std.proofs.Common.{◌≡◌, take}
use Rattle.plan_rules.specs.Part.{host_parts}
use Rattle.plan_rules.proofs.parts.host_parts.Given as goal

abbrev pub invariant-loop-number : goal.invariant-loop-number
invariant-loop-number l = l.hosts.items ≡ host_parts 0 (take l.number l.users)

use Rattle.std.proofs.Common.{◌≡◌, ◌++◌, map, take}
use Rattle.plan_rules.specs.Part.{host_part}
use Rattle.plan_rules.proofs.parts.push_hosts.Given as goal

abbrev pub invariant-loop-port : goal.invariant-loop-port
invariant-loop-port l = l.hosts.items ≡ l.fn.hosts.items ++ map (host_part l.number) (take l.port-index l.port-items)

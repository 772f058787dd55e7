use Rattle.std.proofs.Common.{◌≡◌, ◌++◌, take}
use Rattle.std.specs.List.{flat_map}
use Rattle.plan_rules.specs.Separate.{wired_links, hosts_of}
use Rattle.plan_rules.proofs.ports.used_ports.Given as goal

abbrev pub invariant-loop-user : goal.invariant-loop-user
invariant-loop-user l = l.ports.items ≡ flat_map (λ u. u.hosts) (take l.user-index l.user-items)

abbrev pub invariant-loop-node : goal.invariant-loop-node
invariant-loop-node l = l.ports.items ≡ hosts_of l.domain ++ flat_map wired_links (take l.node-index l.node-items)

use Rattle.std.proofs.Common.{◌≡◌, ◌++◌, filter, take}
use Rattle.plan_rules.specs.Separate.{is_wired}
use Rattle.plan_rules.proofs.ports.push_wired.Given as goal

abbrev pub invariant-loop-link : goal.invariant-loop-link
invariant-loop-link l = l.ports.items ≡ l.fn.ports.items ++ filter is_wired (take l.link-index l.fn.node.links)

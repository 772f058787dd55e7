use Rattle.std.proofs.Common.{◌≡◌, ◌+◌, take, length, flat_map}
use Rattle.plan_rules.proofs.rules.has_few_hosts.Given as goal

abbrev pub invariant-loop-user : goal.invariant-loop-user
invariant-loop-user l = l.left + length (flat_map (λ u. u.hosts) (take l.user-index l.user-items)) ≡ 4

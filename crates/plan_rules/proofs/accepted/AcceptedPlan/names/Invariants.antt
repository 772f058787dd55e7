use Rattle.std.proofs.Common.{◌≡◌, ℕ, List, Bor, map, take}
use Rattle.plan_rules.specs.Users.{all_names}
use Rattle.plan_rules.proofs.accepted.AcceptedPlan.names.Given as goal

-- the names in the domains so far
abbrev pub invariant-loop-domain : goal.invariant-loop-domain
invariant-loop-domain l =
    map {A = Bor (List ℕ)} {B = List ℕ} (λ n. n.now) l.names.items ≡ all_names (take l.domain l.self)

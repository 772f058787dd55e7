use Rattle.std.proofs.Common.{◌≡◌, ◌++◌, ℕ, List, Bor, map, take, slice_get, IfSome}
use Rattle.plan_rules.proofs.users.add_names.Given as goal

-- the names of the users so far
abbrev pub invariant-loop-user : goal.invariant-loop-user
invariant-loop-user l =
    IfSome (slice_get l.plan l.domain)
    (λ d. map {A = Bor (List ℕ)} {B = List ℕ} (λ n. n.now) l.names.items
    ≡ map {A = Bor (List ℕ)} {B = List ℕ} (λ n. n.now) l.fn.names.items
    ++ map (λ u. u.name) (take l.user d.users))

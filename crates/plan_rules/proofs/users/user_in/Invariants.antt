use Rattle.std.proofs.Common.{◌≡◌, ◌≢◌, ◌<◌, ℕ, Some, slice_get, IfSome}
use Rattle.plan_rules.specs.Users.{name_in}
use Rattle.plan_rules.proofs.users.user_in.Given as goal

-- none of the users so far has the name
abbrev pub invariant-loop-user : goal.invariant-loop-user
invariant-loop-user l =
    (k : ℕ) → k < l.user → IfSome (slice_get l.plan l.domain) (λ d. name_in d k ≢ Some l.name)

use Rattle.std.proofs.Common.{◌≡◌, ◌≢◌, ◌<◌, Some}
use Rattle.plan_rules.specs.declared.users.UserNumber.{UserNumber}
use Rattle.plan_rules.specs.Users.{name_at}
use Rattle.plan_rules.proofs.accepted.AcceptedPlan.user_named.Given as goal

-- nobody in the domains so far has the name
abbrev pub invariant-loop-domain : goal.invariant-loop-domain
invariant-loop-domain l = (number : UserNumber) → number.domain < l.domain → name_at l.self number ≢ Some l.name

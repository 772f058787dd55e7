use Rattle.std.proofs.Common.{◌≡◌, map}
use Rattle.farm_program.proofs.threads.start_users.Given as goal

-- a thread for each user so far
abbrev pub invariant-loop-user : goal.invariant-loop-user
invariant-loop-user g l = map (λ t. t.promise.user.value) l.threads.items ≡ l.yielded

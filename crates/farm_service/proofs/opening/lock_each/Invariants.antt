use Rattle.std.proofs.Common.{◌≡◌, length, vec_len}
use Rattle.farm_service.proofs.opening.lock_each.Given as goal

-- a lock for each domain so far
abbrev pub invariant-loop-domain : goal.invariant-loop-domain
invariant-loop-domain l = vec_len l.locks ≡ length l.yielded

use Rattle.std.proofs.Common.{◌≡◌}
use Rattle.farm_service.specs.Passes.{with_reserved}
use Rattle.farm_service.proofs.Restarts.{changed_to}
use Rattle.farm_service.proofs.opening.reserve_each.Given as goal

-- in the first passes memory is reserved
abbrev pub invariant-loop-pass : goal.invariant-loop-pass
invariant-loop-pass l = l.users ≡ changed_to (with_reserved l.count) l.pass-index l.fn.users

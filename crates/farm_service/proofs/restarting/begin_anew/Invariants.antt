use Rattle.std.proofs.Common.{◌≡◌}
use Rattle.farm_service.specs.Restarts.{begun_anew}
use Rattle.farm_service.proofs.Restarts.{changed_to}
use Rattle.farm_service.proofs.restarting.begin_anew.Given as goal

-- the first sessions are begun again
abbrev pub invariant-loop-session : goal.invariant-loop-session
invariant-loop-session l = l.sessions ≡ changed_to begun_anew l.session-index l.fn.sessions

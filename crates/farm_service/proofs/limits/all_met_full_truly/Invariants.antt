use Rattle.std.proofs.Common.{take}
use Rattle.farm_service.specs.Closed.{AllMetFullTruly}
use Rattle.farm_service.proofs.limits.all_met_full_truly.Given as goal

abbrev pub invariant-loop-pass : goal.invariant-loop-pass
invariant-loop-pass l = AllMetFullTruly l.plan l.closed (take l.pass-index l.users)

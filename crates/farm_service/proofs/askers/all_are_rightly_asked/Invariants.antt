use Rattle.std.proofs.Common.{take}
use Rattle.farm_service.specs.Closed.{AllAreRightlyAsked}
use Rattle.farm_service.proofs.askers.all_are_rightly_asked.Given as goal

abbrev pub invariant-loop-domain : goal.invariant-loop-domain
invariant-loop-domain l = AllAreRightlyAsked (take l.domain-index l.closed)

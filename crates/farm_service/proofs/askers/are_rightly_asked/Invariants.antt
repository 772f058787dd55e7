use Rattle.std.proofs.Common.{take}
use Rattle.domain_core.specs.Journal.{expanded}
use Rattle.farm_service.specs.Commands.{AreRightlyAsked}
use Rattle.farm_service.proofs.askers.are_rightly_asked.Given as goal

abbrev pub invariant-loop-index : goal.invariant-loop-index
invariant-loop-index l = AreRightlyAsked (expanded (take l.index l.journal.entries))

use Rattle.std.proofs.Common.{drop}
use Rattle.whole_farm.specs.Places.{places_of}
use Rattle.farm_core.specs.Run.{calls_asked}
use Rattle.farm_core.proofs.AnswersOfRuns.{IsToldSoFar}
use Rattle.farm_core.proofs.calls.answers_to.Given as goal

abbrev pub invariant-loop-domain : goal.invariant-loop-domain
invariant-loop-domain l =
    IsToldSoFar (places_of l.plan) l.told.items (calls_asked (drop l.domain-index l.calls)) (calls_asked l.calls) l.farm

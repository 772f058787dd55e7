use Rattle.farm_core.proofs.Owners.{AreNotOwners}
use Rattle.farm_core.proofs.farm.PlainFarm.owner.Given as goal

-- no domain so far has the output
abbrev pub invariant-loop-index : goal.invariant-loop-index
invariant-loop-index l = AreNotOwners l.self l.index l.output

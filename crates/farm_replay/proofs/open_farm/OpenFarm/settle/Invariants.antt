use Rattle.farm_replay.specs.Runs.{HasGoneOn}
use Rattle.farm_replay.proofs.open_farm.OpenFarm.settle.Given as goal

abbrev pub invariant-loop : goal.invariant-loop
invariant-loop g l = HasGoneOn l.domain l.initial.self.farm l.self.farm

use Rattle.farm_replay.specs.Runs.{HasGoneOn}
use Rattle.farm_replay.proofs.open_farm.OpenFarm.step_nodes.Given as goal

abbrev pub invariant-loop-node : goal.invariant-loop-node
invariant-loop-node g l = HasGoneOn l.domain l.initial.self.farm l.self.farm

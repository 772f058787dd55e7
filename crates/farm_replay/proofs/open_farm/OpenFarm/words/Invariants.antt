use Rattle.std.proofs.Common.{◌≡◌}
use Rattle.farm_replay.proofs.open_farm.OpenFarm.words.Given as goal

abbrev pub invariant-loop-output : goal.invariant-loop-output
invariant-loop-output l = l.self.farm ≡ l.initial.self.farm

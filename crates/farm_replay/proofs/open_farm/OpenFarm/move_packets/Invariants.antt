use Rattle.farm_replay.specs.Runs.{HasGoneOn}
use Rattle.farm_replay.proofs.open_farm.OpenFarm.move_packets.Given as goal

abbrev pub invariant-loop-port : goal.invariant-loop-port
invariant-loop-port l = HasGoneOn l.domain l.initial.self.farm l.self.farm

use Rattle.std.proofs.Common.{◌≡◌, take}
use Rattle.farm_replay.proofs.open_farm.OpenFarm.entries.Given as goal

abbrev pub invariant-loop-index : goal.invariant-loop-index
invariant-loop-index l = l.entries.items ≡ take l.index l.journal.entries

use Rattle.std.proofs.lemmas.Bool.{iff_false}
use Rattle.farm_replay.proofs.Changed.{restarts_nowhere}
use Rattle.farm_replay.proofs.open_farm.OpenFarm.restart.Goals as goal

pub returns-then-not-has_domain : goal.returns-then-not-has_domain
returns-then-not-has_domain c = record {
  restarted = restarts_nowhere c.args.domain c.args.self.now.farm
      (iff_false c.has_domain.ensures c.if-not-has_domain.true) c.whole_law.ensures.whole;
}

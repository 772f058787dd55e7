use Rattle.farm_replay.proofs.Grown.{unrecorded_stays}
use Rattle.farm_replay.proofs.open_farm.OpenFarm.answer_event.Goals as goal

pub returns-clause-unrecorded : goal.returns-clause-unrecorded
returns-clause-unrecorded c =
    unrecorded_stays c.args.domain (record { by = c.args.by; event = c.args.event }) c.apply.result c.args.self.now.farm
    c.apply.new.self
    (record {
      separate = c.whole_law.ensures.separate;
      before = c.whole_law.ensures.meant;
      now = c.whole_law-2.ensures.meant;
      places = c.apply.ensures.places;
      others = c.apply.ensures.others;
    })
    c.apply.ensures.own c.apply.ensures.err

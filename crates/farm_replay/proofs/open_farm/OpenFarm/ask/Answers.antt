use Rattle.farm_replay.proofs.Running.{asked_call}
use Rattle.farm_replay.proofs.open_farm.OpenFarm.ask.Goals as goal

pub returns-clause-call : goal.returns-clause-call
returns-clause-call c =
    asked_call c.args.domain (record { by = c.args.by; event = c.args.event }) c.apply.result c.args.self.now.farm
    c.apply.new.self c.apply.ensures.whole c.apply.ensures.places

use Rattle.std.proofs.Common.{Ok, refl}
use Rattle.domain_core.specs.declared.event.Event.TheVariants.{Move}
use Rattle.farm_replay.proofs.Running.{gone_further, gone_by_call}
use Rattle.farm_replay.proofs.open_farm.OpenFarm.move_packets.Goals as goal

pub loop-port-preserved : goal.loop-port-preserved
loop-port-preserved c =
    let l = c.loop-port in
    gone_further c.runs_add_up.ensures.law c.args.domain c.args.self.now.farm l.self.farm c.ask.new.self.farm
    l.invariant
    (gone_by_call c.args.domain (Move l.port) (Ok c.in-Ok.field-0) l.self.farm c.ask.new.self.farm refl
    c.in-Ok.ensures.call)

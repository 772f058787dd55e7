use Rattle.farm_replay.proofs.Running.{gone_further, gone_by_steps}
use Rattle.farm_replay.proofs.open_farm.OpenFarm.step_nodes.Goals as goal

pub loop-node-preserved : goal.loop-node-preserved
loop-node-preserved g c =
    let l = c.loop-node in
    gone_further c.runs_add_up.ensures.law c.args.domain c.args.self.now.farm l.self.farm c.try_burst.new.farm
    l.invariant
    (gone_by_steps c.args.domain l.node c.args.quantum c.in-Ok.field-0 l.self.farm c.try_burst.new.farm
    c.in-Ok.ensures.steps)

pub returns-in-Ok : goal.returns-in-Ok
returns-in-Ok g c =
    let l = c.loop-node in
    record {
      on =
          gone_further c.runs_add_up.ensures.law c.args.domain c.args.self.now.farm l.self.farm c.try_burst.new.farm
          l.invariant
          (gone_by_steps c.args.domain l.node c.args.quantum c.in-Ok.field-0 l.self.farm c.try_burst.new.farm
          c.in-Ok.ensures.steps);
    }

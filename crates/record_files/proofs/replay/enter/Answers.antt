use Rattle.std.proofs.Common.{subst, sym}
use Rattle.farm_service.specs.Restarts.{AreInOrder}
use Rattle.record_files.proofs.replay.enter.Goals as goal

pub returns-in-Ok : goal.returns-in-Ok
returns-in-Ok g c = λ _. c.in-Ok.ensures.entered.all.each

pub returns-in-Err : goal.returns-in-Err
returns-in-Err g c = λ order. subst (AreInOrder c.args.domain) (sym c.in-Err.ensures.err.1) order

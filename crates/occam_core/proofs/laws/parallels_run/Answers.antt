use Rattle.occam_core.proofs.Sides.{run_together}
use Rattle.occam_core.proofs.laws.parallels_run.Goals as goal

pub returns : goal.returns
returns c = record { law = run_together }

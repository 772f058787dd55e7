use Rattle.occam_core.proofs.Coming.{done}
use Rattle.occam_core.proofs.laws.sequential_runs_are_done.Goals as goal

pub returns : goal.returns
returns c = record { law = done }

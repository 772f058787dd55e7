use Rattle.occam_core.proofs.Tracing.{traced}
use Rattle.occam_core.proofs.laws.sequential_processes_run.Goals as goal

pub returns : goal.returns
returns c = record { law = traced }

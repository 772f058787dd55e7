use Rattle.occam_core.proofs.Sides.{begun_silently}
use Rattle.occam_core.proofs.laws.processes_begin.Goals as goal

pub returns : goal.returns
returns c = record { law = begun_silently }

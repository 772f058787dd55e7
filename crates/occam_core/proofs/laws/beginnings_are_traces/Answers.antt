use Rattle.occam_core.proofs.Beginnings.{begins}
use Rattle.occam_core.proofs.laws.beginnings_are_traces.Goals as goal

pub returns : goal.returns
returns c = record { law = begins }

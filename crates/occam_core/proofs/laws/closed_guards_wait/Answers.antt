use Rattle.occam_core.proofs.Sides.{closed_passed}
use Rattle.occam_core.proofs.laws.closed_guards_wait.Goals as goal

pub returns : goal.returns
returns c = record { law = closed_passed }

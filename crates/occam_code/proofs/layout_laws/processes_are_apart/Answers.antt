use Rattle.occam_code.proofs.Apart.{laid_out}
use Rattle.occam_code.proofs.layout_laws.processes_are_apart.Goals as goal

pub returns : goal.returns
returns c = record { law = laid_out }

use Rattle.occam_code.proofs.Behaved.{behaves}
use Rattle.occam_code.proofs.process_laws.processes_behave.Goals as goal

pub returns : goal.returns
returns c = record { law = behaves }

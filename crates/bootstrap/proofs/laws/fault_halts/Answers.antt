use Rattle.bootstrap.proofs.Resting.{fault-halts}
use Rattle.bootstrap.proofs.laws.fault_halts.Goals as goal

pub returns : goal.returns
returns c = record { law = fault-halts }

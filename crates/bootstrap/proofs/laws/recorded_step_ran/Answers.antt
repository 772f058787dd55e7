use Rattle.bootstrap.proofs.Resting.{recorded-ran}
use Rattle.bootstrap.proofs.laws.recorded_step_ran.Goals as goal

pub returns-clause-ran : goal.returns-clause-ran
returns-clause-ran c = recorded-ran

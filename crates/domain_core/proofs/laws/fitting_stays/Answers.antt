use Rattle.domain_core.proofs.AnswersInHistory as told
use Rattle.domain_core.proofs.laws.fitting_stays.Goals as goal

pub returns : goal.returns
returns c = record { law = told.fitting_stays }

use Rattle.whole_farm.proofs.MadeOfDomains as making
use Rattle.whole_farm.proofs.laws.runs_add_up.Goals as goal

pub returns : goal.returns
returns c = record { law = making.runs_add_up }

use Rattle.domain_core.proofs.Runs.{expanded-append}
use Rattle.domain_core.proofs.laws.journals_add_up.Goals as goal

pub returns : goal.returns
returns c = record { law = expanded-append }

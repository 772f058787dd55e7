use Rattle.occam_uses.proofs.Values.{value_same}
use Rattle.occam_uses.proofs.laws.value_is_of_what_is_read.Goals as goal

pub returns : goal.returns
returns c = record { law = value_same }

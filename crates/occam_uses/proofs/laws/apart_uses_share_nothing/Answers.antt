use Rattle.occam_uses.proofs.Clashes.{shares_nothing, shared_otherwise}
use Rattle.occam_uses.proofs.laws.apart_uses_share_nothing.Goals as goal

pub returns : goal.returns
returns c = record { law = λ firsts seconds. (shares_nothing firsts seconds, shared_otherwise firsts seconds) }

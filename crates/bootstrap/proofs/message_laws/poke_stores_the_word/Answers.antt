use Rattle.bootstrap.proofs.Pokes.{pokes}
use Rattle.bootstrap.proofs.message_laws.poke_stores_the_word.Goals as goal

pub returns : goal.returns
returns c = record { law = pokes }

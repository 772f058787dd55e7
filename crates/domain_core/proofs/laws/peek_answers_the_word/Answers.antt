use Rattle.domain_core.proofs.PeekWhole.{peek-told}
use Rattle.domain_core.proofs.laws.peek_answers_the_word.Goals as goal

pub returns : goal.returns
returns c = record { law = peek-told }

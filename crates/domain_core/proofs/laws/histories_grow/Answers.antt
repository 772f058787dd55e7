use Rattle.domain_core.proofs.Histories.{longer}
use Rattle.domain_core.proofs.AnswersInHistory.{next_is_an_answer}
use Rattle.domain_core.proofs.laws.histories_grow.Goals as goal

pub returns : goal.returns
returns c = record { answer = next_is_an_answer; history = longer }

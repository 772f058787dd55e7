use Rattle.line_answers.proofs.Lines.{full_is_said_truly}
use Rattle.line_answers.proofs.laws.full_is_said_truly.Goals as goal

pub returns : goal.returns
returns c = record { law = full_is_said_truly }

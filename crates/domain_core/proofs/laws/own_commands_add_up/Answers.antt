use Rattle.domain_core.proofs.AnswersInHistory as told
use Rattle.domain_core.proofs.laws.own_commands_add_up.Goals as goal

pub returns : goal.returns
returns c = record { law = told.own_commands_add_up; steps = told.steps_are_nobodys }

use Rattle.bootstrap.proofs.Counting.{after-add, last-add}
use Rattle.bootstrap.proofs.laws.steps_add_up.Goals as goal

pub returns-clause-steps : goal.returns-clause-steps
returns-clause-steps c = after-add

pub returns-clause-last : goal.returns-clause-last
returns-clause-last c = last-add

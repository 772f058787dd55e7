use Rattle.bootstrap.proofs.Resting.{quiet-step}
use Rattle.bootstrap.proofs.laws.quiet_step_changes_nothing.Goals as goal

pub returns : goal.returns
returns c = record { law = quiet-step c.idle_where_it_rests.ensures.law c.services_act_on_work.ensures.rest }

use Rattle.t414_step.proofs.Idle.{tells_idle-step}
use Rattle.t414_step.proofs.laws.idle_where_it_rests.Goals as goal

pub returns : goal.returns
returns c =
    record { law = tells_idle-step c.services_act_on_work.ensures.does_something c.services_act_on_work.ensures.rest }

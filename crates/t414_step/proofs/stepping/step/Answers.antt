use Rattle.t414_step.proofs.Idle.{is_idle-step}
use Rattle.t414_step.proofs.stepping.step.Goals as goal

pub returns-clause-idle : goal.returns-clause-idle
returns-clause-idle c =
    is_idle-step c.services_act_on_work.ensures.does_something c.services_act_on_work.ensures.rest c.advance.result
    c.args.cpu.now _ c.args.links.now _ c.args.memory.now _ c.advance.ensures.answer

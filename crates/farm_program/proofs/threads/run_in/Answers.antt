use Rattle.std.proofs.Common.{List, ◌∙◌, subst, sym}
use Rattle.token_queue.specs.Passes.{AreItsPasses, WorkerPassValue}
use Rattle.farm_program.proofs.ThreadLemmas.{plan_answered}
use Rattle.farm_program.proofs.threads.run_in.Goals as goal

pub returns-clause-users : goal.returns-clause-users
returns-clause-users g c =
    plan_answered c.args.service.now.plan c.args.lines.now _ c.in_ok-users.users.items _
    c.in_ok-users.ensures c.in_ok-threads.ensures.users

pub returns-clause-workers : goal.returns-clause-workers
returns-clause-workers g c =
    subst (λ (passes : List WorkerPassValue). AreItsPasses c.args.service.now.plan c.args.service.now.queue passes)
    (sym (c.in_ok-workers.ensures ∙ c.in_ok-threads.ensures.workers)) c.requires.workers

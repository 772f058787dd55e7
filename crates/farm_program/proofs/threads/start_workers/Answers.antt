use Rattle.std.proofs.Common.{◌≡◌, [], rules, subst, sym, length}
use Rattle.std.proofs.lemmas.Iterator.Consumers.{YieldsList-turn}
use Rattle.std.proofs.lemmas.Iterator.Adapters.{YieldsList-from_vec}
use Rattle.token_queue.specs.Passes.{WorkerPassValue}
use Rattle.farm_program.proofs.threads.start_workers.Goals as goal

pub start_worker-requires-clause-queue : goal.start_worker-requires-clause-queue
start_worker-requires-clause-queue g c κs within =
    let turn =
    YieldsList-turn
    (YieldsList-from_vec {s = c.into_iter-pass-iterator.result} c.args.passes.items (search rules) (search rules))
    c.loop-pass.yielded c.loop-pass.pass-iterator c.loop-pass.yielded_by c.next.result c.next.new.self c.in-Some.pass
    c.in-Some.is c.next.ensures.steps in
    subst (λ (p : WorkerPassValue). p.queue ≡ c.args.service.now.queue) (sym turn.1)
    (c.requires.of (length c.loop-pass.yielded) c.in-Some.pass turn.0)

pub start_worker-requires-clause-none : goal.start_worker-requires-clause-none
start_worker-requires-clause-none g c κs within =
    let turn =
    YieldsList-turn
    (YieldsList-from_vec {s = c.into_iter-pass-iterator.result} c.args.passes.items (search rules) (search rules))
    c.loop-pass.yielded c.loop-pass.pass-iterator c.loop-pass.yielded_by c.next.result c.next.new.self c.in-Some.pass
    c.in-Some.is c.next.ensures.steps in
    subst (λ (p : WorkerPassValue). p.held ≡ []) (sym turn.1)
    (c.requires.none (length c.loop-pass.yielded) c.in-Some.pass turn.0)

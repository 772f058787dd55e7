use Rattle.std.proofs.Common.{◌≡◌, map, rules}
use Rattle.std.proofs.lemmas.Result.{IfOk-weaker}
use Rattle.farm_program.proofs.ThreadLemmas.{same_left}
use Rattle.farm_program.proofs.threads.join_workers.Goals as goal

pub returns : goal.returns
returns g c =
    IfOk-weaker c.all_of.result _
    (λ passes. passes.items ≡ map (λ t. t.promise.pass.value) c.args.threads.items)
    (λ passes all. same_left (λ t. t.promise.pass.value) c.args.threads.items c.in_ok-returned.returned.items
    passes.items
    (λ i d less. let kept = (c.in_ok-returned.ensures.each i d (search rules)).1 in
    (kept.handle, kept.handle_is, kept.kept))
    (search rules) all)
    c.all_of.ensures

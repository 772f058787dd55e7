use Rattle.std.proofs.Common.{map, rules}
use Rattle.std.proofs.lemmas.Result.{IfOk-weaker}
use Rattle.farm_program.specs.Users.{AreEndsOf}
use Rattle.farm_program.proofs.ThreadLemmas.{users_left}
use Rattle.farm_program.proofs.threads.join_users.Goals as goal

pub returns : goal.returns
returns g c =
    IfOk-weaker c.all_of.result _
    (λ ends. AreEndsOf (map (λ t. t.promise.user.value) c.args.threads.items) ends.items)
    (λ ends all. users_left (λ t. t.promise.user.value) c.args.threads.items c.in_ok-returned.returned.items ends.items
    (λ i d less. let kept = (c.in_ok-returned.ensures.each i d (search rules)).1 in
    (kept.handle, kept.handle_is, kept.kept))
    (search rules) all)
    c.all_of.ensures

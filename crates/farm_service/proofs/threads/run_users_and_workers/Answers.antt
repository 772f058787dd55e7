use Rattle.std.proofs.Common.{arith, subst}
use Rattle.std.proofs.lemmas.Grind.{common_steps}
use Rattle.std.specs.Fork.{ChangesEach}
use Rattle.farm_service.proofs.threads.run_users_and_workers.Goals as goal

pub returns-clause-users : goal.returns-clause-users
returns-clause-users g c =
    subst (ChangesEach g.F.Fn c.args.act.now c.args.users.now) (grind (arith, common_steps))
    c.join_mut-worked.ensures.1.met.1

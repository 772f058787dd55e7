use Rattle.std.proofs.Common.{List, subst}
use Rattle.farm_program.specs.declared.users.User.{User}
use Rattle.farm_program.specs.Users.{AreEndsOf}
use Rattle.farm_program.proofs.threads.run_users.Goals as goal

pub returns-clause-users : goal.returns-clause-users
returns-clause-users g c =
    subst (λ (users : List User). AreEndsOf users c.in_ok-ends.ends.items) c.in_ok-users.ensures c.in_ok-ends.ensures

use Rattle.std.proofs.Common.{refl}
use Rattle.farm_service.proofs.service.Service.of.Goals as goal

pub returns-clause-plan : goal.returns-clause-plan
returns-clause-plan g c = refl

pub returns-clause-users : goal.returns-clause-users
returns-clause-users g c = refl

pub returns-clause-workers : goal.returns-clause-workers
returns-clause-workers g c = c.in_ok-domains.ensures.workers

pub returns-clause-passes : goal.returns-clause-passes
returns-clause-passes g c = c.in_ok-domains.ensures.passes

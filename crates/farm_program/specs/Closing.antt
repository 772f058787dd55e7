-- What a service is closed with.
use Rattle.std.specs.Prelude.{◌≡◌, List, map}
use Rattle.plan_rules.specs.Data.{DomainData}
use Rattle.farm_service.specs.declared.closed.ClosedDomain.{ClosedDomain}
use Rattle.farm_service.specs.Passes.{UserPassValue, fresh_passes}
use Rattle.farm_service.specs.Closed.{AreListed}
use Rattle.farm_program.specs.Users.{unasked}

-- the passes of a plan's users, in its order, whatever they list
abbrev pub ArePassesOf : List DomainData → List UserPassValue → Type 0
ArePassesOf plan passes = map unasked passes ≡ fresh_passes plan

-- the passes of a plan's users each list the user's commands in the journal of the user's domain, and nothing else
abbrev pub AreAllListed : List DomainData → List ClosedDomain → Type 0
AreAllListed plan closed = (passes : List UserPassValue) × ArePassesOf plan passes × AreListed closed passes

use Rattle.std.proofs.Common.{◌≡◌}
use Rattle.live_farm.proofs.farm_users.add_stations.Given as goal

-- the users stay
abbrev pub invariant-loop-group : goal.invariant-loop-group
invariant-loop-group l = (l.farm_users.numbers ≡ l.initial.farm_users.numbers)
    × (l.farm_users.names ≡ l.initial.farm_users.names)

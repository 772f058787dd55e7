use Rattle.std.proofs.Common.{◌≡◌, ◌++◌, Some, map}
use Rattle.plan_rules.specs.Users.{name_at}
use Rattle.live_farm.specs.Names.{user_number_of}
use Rattle.live_farm.proofs.farm_users.join_all.Given as goal

-- the users so far have joined
abbrev pub invariant-loop-pass : goal.invariant-loop-pass
invariant-loop-pass l =
    (l.farm_users.numbers.items ≡ l.initial.farm_users.numbers.items ++ map user_number_of l.yielded)
    × (map (λ n. Some n.now) l.farm_users.names.items
    ≡ map (λ n. Some n.now) l.initial.farm_users.names.items
    ++ map (λ p. name_at l.fn.service.plan (user_number_of p)) l.yielded)
    × (l.farm_users.stations ≡ l.initial.farm_users.stations)

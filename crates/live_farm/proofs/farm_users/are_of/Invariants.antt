use Rattle.std.proofs.Common.{◌≡◌, map, take}
use Rattle.live_farm.specs.Names.{user_number_of}
use Rattle.live_farm.proofs.farm_users.are_of.Given as goal

-- the passes so far are of these users
abbrev pub invariant-loop-place : goal.invariant-loop-place
invariant-loop-place l = take l.place (map user_number_of l.passes) ≡ take l.place l.numbers

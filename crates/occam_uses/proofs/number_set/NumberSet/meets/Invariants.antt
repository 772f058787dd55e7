use Rattle.std.proofs.Common.{ℕ, ◌≡◌, ◌/◌, ◌<◌, true, false}
use Rattle.occam_uses.specs.Uses.{is_between}
use Rattle.occam_uses.specs.Sets.{has_number}
use Rattle.occam_uses.proofs.number_set.NumberSet.meets.Given as goal

abbrev pub invariant-loop-k : goal.invariant-loop-k
invariant-loop-k l =
    (n : ℕ) → is_between l.first l.end n ≡ true → n / 64 < l.k → has_number l.self n ≡ false

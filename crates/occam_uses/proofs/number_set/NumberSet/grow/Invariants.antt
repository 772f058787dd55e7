use Rattle.std.proofs.Common.{ℕ, ◌≡◌, ◌+◌, ◌-◌, vec_len}
use Rattle.occam_uses.specs.Sets.{has_number}
use Rattle.occam_uses.proofs.number_set.NumberSet.grow.Given as goal

abbrev pub invariant-loop-self : goal.invariant-loop-self
invariant-loop-self l = (n : ℕ) → has_number l.self n ≡ has_number l.fn.self n

abbrev pub decreases-loop-self : goal.decreases-loop-self
decreases-loop-self l = l.last + 1 - vec_len l.self.blocks

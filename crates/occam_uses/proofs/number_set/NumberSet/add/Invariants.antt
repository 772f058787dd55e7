use Rattle.std.proofs.Common.{ℕ, ◌≡◌, ◌/◌, ◌<◌, ◌&&◌, ◌||◌, nat_lt, vec_len}
use Rattle.occam_uses.specs.Uses.{is_between}
use Rattle.occam_uses.specs.Sets.{has_number}
use Rattle.occam_uses.proofs.number_set.NumberSet.add.Given as goal

abbrev pub invariant-loop-k : goal.invariant-loop-k
invariant-loop-k l = record {
  room : l.last < vec_len l.self.blocks;
  before : (n : ℕ)
      → has_number l.self n ≡ (has_number l.fn.self n || (is_between l.first l.end n && nat_lt (n / 64) l.k));
}

use Rattle.std.proofs.Common.{◌≡◌, ◌+◌, ◌≤◌, min, refl, arith}
use Rattle.std.proofs.Math.Nat.{min-eq_right}
use Rattle.t414_step.specs.Step.{byte_done}
use Rattle.t414_step.proofs.laws.great_count_is_the_most.Goals as goal

-- the next byte makes either count 1,024
pub returns : goal.returns
unfolding byte_done
returns c = record {
  law = λ s ls m past.
      let most : min (s.bytes + 1) 1024 ≡ 1024 = min-eq_right (let above : 1024 ≤ s.bytes + 1 = omega arith in above) in
      rw most refl;
}

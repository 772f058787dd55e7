use Rattle.std.proofs.Common.{ap, ◌∙◌}
use Rattle.occam_uses.specs.Sets.{has_bit}
use Rattle.occam_uses.proofs.Sets.{zeros_added}
use Rattle.occam_uses.proofs.number_set.NumberSet.grow.Goals as goal

pub loop-self-preserved : goal.loop-self-preserved
loop-self-preserved c =
    λ n.
    ap (λ blocks. has_bit blocks n) c.in_ok-push.ensures.items ∙ zeros_added _ n ∙ c.loop-self.invariant n

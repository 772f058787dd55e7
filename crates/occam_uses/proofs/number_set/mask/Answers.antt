use Rattle.std.proofs.Common.{◌∙◌}
use Rattle.occam_uses.proofs.Sets.{mask_bits, block_between}
use Rattle.occam_uses.proofs.number_set.mask.Goals as goal

pub returns : goal.returns
returns c =
    λ i small.
    rw (
      c.saturating_sub-3.ensures,
      c.ones-below_end.ensures,
      c.ones-below_first.ensures,
      c.min-2.ensures,
      c.min.ensures,
      c.saturating_sub-2.ensures,
      c.saturating_sub.ensures,
    )
    (mask_bits _ _ i ∙ block_between c.args.k c.args.first c.args.end i small)

use Rattle.std.proofs.Common.{ap, ◌∙◌}
use Rattle.occam_uses.specs.Sets.{has_bit}
use Rattle.occam_uses.proofs.Sets.{no_bits}
use Rattle.occam_uses.proofs.number_set.NumberSet.new.Goals as goal

pub returns : goal.returns
returns c = λ n. ap (λ blocks. has_bit blocks n) c.new.ensures.items ∙ no_bits n

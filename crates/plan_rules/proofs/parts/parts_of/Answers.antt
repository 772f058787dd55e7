use Rattle.std.proofs.Common.{arith}
use Rattle.plan_rules.proofs.SeparateLemmas.{alone}
use Rattle.plan_rules.proofs.parts.parts_of.Goals as goal

pub part_of-requires : goal.part_of-requires
part_of-requires c =
    rw c.domain-item.is (alone c.args.domains.now c.requires c.loop-domain.domain-index _ (omega arith))

use Rattle.std.proofs.Common.{map, arith}
use Rattle.plan_rules.specs.Part.{physical_ports}
use Rattle.plan_rules.proofs.ListLemmas.{mapped_more, at_end}
use Rattle.plan_rules.proofs.SeparateLemmas.{alone}
use Rattle.plan_rules.proofs.row.ports_of.Goals as goal

pub row_of-requires : goal.row_of-requires
row_of-requires c = rw c.domain-item.is (alone c.args.domains.now c.requires c.loop-domain.domain-index _ (omega arith))

pub loop-domain-preserved : goal.loop-domain-preserved
loop-domain-preserved c =
    rw (c.in_ok-push.ensures.items, c.of.ensures, c.row_of.ensures.row, c.domain-item.is)
    (mapped_more physical_ports c.args.domains.now c.loop-domain.domain-index _ _ c.loop-domain-test.true
    c.loop-domain.invariant)

pub returns : goal.returns
returns c =
    at_end (map physical_ports) c.args.domains.now c.loop-domain.domain-index _ c.loop-domain-test.false
    c.loop-domain.invariant

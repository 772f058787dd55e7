use Rattle.std.proofs.Common.{◌<◌, ◌/◌, inl, inr, length, arith}
use Rattle.std.proofs.lemmas.Bool.{cases_lt}
use Rattle.occam_uses.proofs.Sets.{bit_met, bit_free, none_met}
use Rattle.occam_uses.proofs.number_set.NumberSet.meets.Goals as goal

pub returns-then-index-mask-ne0-clause-met : goal.returns-then-index-mask-ne0-clause-met
returns-then-index-mask-ne0-clause-met c =
    λ _.
    let within : c.loop-k.k < length c.args.self.now.blocks.items = omega arith in
    bit_met c.args.self.now.blocks.items c.loop-k.k c.mask.result c.index.result.now c.args.first c.args.end within
    c.index.ensures c.mask.ensures c.mask.type_inv c.if-index-mask-ne0.true

pub loop-k-preserved : goal.loop-k-preserved
loop-k-preserved c =
    λ n between below.
    let within : c.loop-k.k < length c.args.self.now.blocks.items = omega arith in
    elim (cases_lt (n / 64) c.loop-k.k) [
      | inl before ↦ c.loop-k.invariant n between before
      | inr here ↦
          bit_free c.args.self.now.blocks.items c.loop-k.k c.mask.result c.index.result.now c.args.first c.args.end n
          within c.index.ensures c.mask.ensures c.if-index-mask-ne0.false (omega arith) between
    ]

pub returns-clause-free : goal.returns-clause-free
returns-clause-free c =
    λ _ n between.
    none_met c.args.self.now.blocks.items c.args.first c.args.end c.loop-k.k c.min-to.result n (omega arith)
    c.loop-k-test.false c.loop-k.invariant between

use Rattle.std.proofs.Common.{false, refl, sym}
use Rattle.occam_uses.specs.declared.usage.Usage.{Usage}
use Rattle.occam_uses.specs.declared.usage.UsageWay.TheVariants.{Changes}
use Rattle.occam_uses.proofs.Clashes.{clash_met, no_clash_met}
use Rattle.occam_uses.proofs.finding.first_clash.Goals as goal

abbrev no_usage : Usage
no_usage = record { way = Changes; first = 0; end = 0; is_known = false; place = record { line = 0; column = 0 } }

pub returns-then-are_in_the_way_of : goal.returns-then-are_in_the_way_of
returns-then-are_in_the_way_of c =
    sym (clash_met c.args.earlier.now c.args.later.now c.args.before.now c.loop-index.index no_usage c.requires
    c.loop-index-test.true (c.if-are_in_the_way_of.ensures.met refl))

pub loop-index-preserved : goal.loop-index-preserved
loop-index-preserved c =
    no_clash_met c.args.earlier.now c.args.later.now c.args.before.now c.loop-index.index no_usage c.requires
    c.loop-index-test.true (c.if-are_in_the_way_of.ensures.free refl) c.loop-index.invariant

use Rattle.std.proofs.Common.{◌∙◌, pos, unsigned_abs, ◌≤ℤ◌, rules, arith, w64, SFits}
use Rattle.std.proofs.lemmas.Int.{ints, to_z-of_z}
use Rattle.plan_rules.proofs.RuleLemmas.{length_least}
use Rattle.plan_rules.proofs.SeparateLemmas.{counted}
use Rattle.plan_rules.proofs.PortLemmas.{abs_is}
use Rattle.plan_rules.proofs.parts.port_count.Goals as goal

pub loop-range-preserved : goal.loop-range-preserved
loop-range-preserved c =
    let fits : SFits w64 c.length_of.result = search rules in
    let least =
    length_least c.args.ranges.now c.loop-range.range-index (record { first = pos 0; last = pos 0 }) c.requires.ranges
    (omega arith) in
    let low : pos 0 ≤ℤ c.length_of.result = omega (arith, ints, least, c.length_of.ensures) in
    rw (to_z-of_z w64 _ fits)
    (counted c.args.ranges.now c.loop-range.range-index (record { first = pos 0; last = pos 0 }) c.loop-range.count
    (unsigned_abs c.length_of.result) (omega (arith, c.requires.few)) c.requires.ranges (omega arith)
    c.loop-range.invariant.0 c.loop-range.invariant.1 (abs_is c.length_of.result low ∙ c.length_of.ensures))

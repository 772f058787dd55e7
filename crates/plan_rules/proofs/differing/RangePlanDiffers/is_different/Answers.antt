use Rattle.std.proofs.Common.{rules, w64, SFits}
use Rattle.std.proofs.lemmas.Int.{to_z-of_z}
use Rattle.plan_rules.proofs.RuleLemmas.{differs_from}
use Rattle.plan_rules.proofs.differing.RangePlanDiffers.is_different.Goals as goal

pub returns : goal.returns
returns c =
    let f1 : SFits w64 c.args.self.now.first = search rules in
    let f2 : SFits w64 c.args.self.now.last = search rules in
    let f3 : SFits w64 c.args.other.now.first = search rules in
    let f4 : SFits w64 c.args.other.now.last = search rules in
    let f5 : SFits w64 c.min.result = search rules in
    let f6 : SFits w64 c.max.result = search rules in
    let low = simp to_z-of_z at c.max.ensures.value in
    let high = simp to_z-of_z at c.min.ensures.value in
    rw (to_z-of_z w64 _ f5, to_z-of_z w64 _ f6)
    (differs_from c.args.self.now.first c.args.self.now.last c.args.other.now.first c.args.other.now.last c.max.result
    c.min.result low high)

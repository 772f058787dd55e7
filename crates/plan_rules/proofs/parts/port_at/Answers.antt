use Rattle.std.proofs.Common.{rules, sym, w64, ap, cond, Some, None, unsigned_abs}
use Rattle.std.proofs.lemmas.Int.{to_z-of_z}
use Rattle.plan_rules.proofs.parts.port_at.Goals as goal

pub overflow_cast-result : goal.overflow_cast-result
overflow_cast-result c =
    let same = to_z-of_z w64 c.args.link c.ranges.link in
    let lies = c.requires (sym (rw same at c.if-is_wired.ensures)) in
    rw same (search rules)

pub returns-then-is_wired : goal.returns-then-is_wired
returns-then-is_wired c =
    let same = to_z-of_z w64 c.args.link c.ranges.link in
    let wired = rw same at c.if-is_wired.ensures in
    rw same (ap (λ b. cond b (Some (unsigned_abs c.args.link)) None) wired)

use Rattle.std.proofs.Common.{ℕ, ◌≡◌, ◌||◌, take}
use Rattle.occam_uses.specs.declared.usage.UsageWay.{UsageWay}
use Rattle.occam_uses.specs.Uses.{has_usage}
use Rattle.occam_uses.specs.Sets.{has_number, marked}
use Rattle.occam_uses.proofs.marks.UsageMarks.add_all.Given as goal

abbrev pub invariant-loop-used : goal.invariant-loop-used
invariant-loop-used l =
    (way : UsageWay) (n : ℕ)
    → has_number (marked l.self way) n ≡ (has_number (marked l.fn.self way) n || has_usage (take l.used-index l.uses)
    way n)

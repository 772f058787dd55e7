use Rattle.std.proofs.Common.{◌≡◌, true, take}
use Rattle.occam_uses.specs.Uses.{are_apart}
use Rattle.occam_uses.proofs.finding.first_clash.Given as goal

abbrev pub invariant-loop-index : goal.invariant-loop-index
invariant-loop-index l = are_apart l.earlier (take l.index l.later) ≡ true

use Rattle.std.proofs.Common.{length}
use Rattle.script_text.proofs.LineLemmas.{IsReached}
use Rattle.script_text.proofs.lines.divide.Given as goal

abbrev pub invariant-loop-mark : goal.invariant-loop-mark
invariant-loop-mark l = IsReached l.text l.mark l.rest

abbrev pub decreases-loop-mark : goal.decreases-loop-mark
decreases-loop-mark l = length l.rest

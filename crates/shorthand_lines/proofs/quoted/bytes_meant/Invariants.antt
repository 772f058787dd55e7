use Rattle.std.proofs.Common.{length}
use Rattle.shorthand_lines.proofs.Meanings.{IsMeantTo}
use Rattle.shorthand_lines.proofs.quoted.bytes_meant.Given as goal

abbrev pub invariant-loop-rest : goal.invariant-loop-rest
invariant-loop-rest l = IsMeantTo l.text l.rest l.bytes.items

abbrev pub decreases-loop-rest : goal.decreases-loop-rest
decreases-loop-rest l = length l.rest

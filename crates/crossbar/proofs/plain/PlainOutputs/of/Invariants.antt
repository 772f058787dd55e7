use Rattle.crossbar.proofs.PlainRows.{Gathers}
use Rattle.crossbar.proofs.plain.PlainOutputs.of.Given as goal

abbrev pub invariant-loop-number : goal.invariant-loop-number
invariant-loop-number l = Gathers l.words l.numbering l.own l.number

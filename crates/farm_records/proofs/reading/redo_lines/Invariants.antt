use Rattle.farm_records.proofs.Consuming.{RedoneSoFar}
use Rattle.farm_records.proofs.reading.redo_lines.Given as goal

-- what was taken so far was done again
abbrev pub invariant-loop-number : goal.invariant-loop-number
invariant-loop-number g l =
    RedoneSoFar (g.I.Read.remaining l.initial.input) (g.I.Read.remaining l.input) l.initial.domain l.domain

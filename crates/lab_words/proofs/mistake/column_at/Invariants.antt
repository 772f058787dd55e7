use Rattle.std.proofs.Common.{◌≡◌}
use Rattle.lab_words.specs.Columns.{column_of}
use Rattle.lab_words.proofs.mistake.column_at.Given as goal

-- the column of the place that is reached
abbrev pub invariant-loop-i : goal.invariant-loop-i
invariant-loop-i l = l.column ≡ column_of l.line l.i

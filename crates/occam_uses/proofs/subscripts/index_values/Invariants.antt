use Rattle.std.proofs.Common.{◌≡◌, drop}
use Rattle.occam_uses.specs.Subscripts.{later_values, index_values}
use Rattle.occam_uses.proofs.subscripts.index_values.Given as goal

abbrev pub invariant-loop-index : goal.invariant-loop-index
invariant-loop-index l = later_values l.values (drop l.index-index l.indices) l.variable ≡ index_values l.indices
    l.variable

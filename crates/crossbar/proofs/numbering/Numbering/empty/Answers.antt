use Rattle.crossbar.proofs.Numberings.{empty_table}
use Rattle.std.proofs.Common.{refl}
use Rattle.crossbar.proofs.numbering.Numbering.empty.Goals as goal

pub invariant_of-result : goal.invariant_of-result
invariant_of-result c = empty_table _ refl

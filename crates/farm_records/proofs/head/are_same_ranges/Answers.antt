use Rattle.std.proofs.lemmas.Slice.Eq.{slice_eq-Decides}
use Rattle.farm_records.proofs.Ranges.{same_range_or_none}
use Rattle.farm_records.proofs.head.are_same_ranges.Goals as goal

pub returns : goal.returns
returns c = slice_eq-Decides same_range_or_none c.args.a.now c.args.b.now c.eq.result c.eq.ensures

use Rattle.std.proofs.lemmas.Slice.Eq.{slice_eq-Decides}
use Rattle.plan_rules.proofs.PartLemmas.{same_node}
use Rattle.plan_rules.proofs.part.are_same_nodes.Goals as goal

pub returns : goal.returns
returns c = slice_eq-Decides same_node c.args.a.now c.args.b.now c.eq.result c.eq.ensures

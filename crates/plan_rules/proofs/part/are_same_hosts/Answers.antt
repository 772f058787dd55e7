use Rattle.std.proofs.lemmas.Slice.Eq.{slice_eq-Decides}
use Rattle.plan_rules.proofs.PartLemmas.{same_host}
use Rattle.plan_rules.proofs.part.are_same_hosts.Goals as goal

pub returns : goal.returns
returns c = slice_eq-Decides same_host c.args.a.now c.args.b.now c.eq.result c.eq.ensures

use Rattle.std.proofs.Common.{arith}
use Rattle.std.proofs.lemmas.Bool.Decides.{nat_tests}
use Rattle.domain_core.proofs.Outcomes.{none_behind}
use Rattle.domain_core.proofs.moves.is_past.Goals as goal

pub returns : goal.returns
returns c = λ is more. none_behind c.args.outputs c.args.output (grind (arith, nat_tests, is)) more

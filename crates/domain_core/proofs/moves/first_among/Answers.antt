use Rattle.std.proofs.Common.{arith}
use Rattle.domain_core.proofs.Outcomes.{none_before}
use Rattle.domain_core.proofs.moves.first_among.Goals as goal

pub returns-clause-none : goal.returns-clause-none
returns-clause-none c = none_before c.args.outputs c.min.result (omega arith) c.ranges.outputs.fits (omega arith)

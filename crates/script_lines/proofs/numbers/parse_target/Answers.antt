use Rattle.std.proofs.Common.{refl}
use Rattle.script_lines.proofs.Readings.{digits_are_utf8}
use Rattle.script_lines.proofs.numbers.parse_target.Goals as goal

pub returns-in-Err-clause-fault : goal.returns-in-Err-clause-fault
returns-in-Err-clause-fault c =
    (refl, λ place. c.in-Err.ensures.cases.0 (digits_are_utf8 c.args.word.now place.1.digits.1))

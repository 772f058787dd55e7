use Rattle.std.proofs.Common.{rules}
use Rattle.script_text.proofs.InputLemmas.{end_read, long_read, rest_passed}
use Rattle.script_text.proofs.input_line.next_line.Goals as goal

pub returns-in-Ok-true-clause-line : goal.returns-in-Ok-true-clause-line
returns-in-Ok-true-clause-line g c =
    end_read _ _ (c.read_beginning.ensures.line (search rules)) (search rules)

pub returns-in_ok-skip_until-in-Ok-false-clause-line : goal.returns-in_ok-skip_until-in-Ok-false-clause-line
returns-in_ok-skip_until-in-Ok-false-clause-line g c =
    long_read _ _ _ c.args.most c.read_beginning.ensures.bytes (c.read_beginning.ensures.goes_on (search rules))
    (c.read_beginning.ensures.cut (search rules))

pub returns-in_ok-skip_until-in-Ok-false-clause-rest : goal.returns-in_ok-skip_until-in-Ok-false-clause-rest
returns-in_ok-skip_until-in-Ok-false-clause-rest g c =
    rest_passed _ _ _ _ c.read_beginning.ensures.bytes (c.read_beginning.ensures.goes_on (search rules))
    c.in_ok-skip_until-in-Ok-false.ensures.rest

pub returns-in_ok-skip_until-in-Err-clause-rest : goal.returns-in_ok-skip_until-in-Err-clause-rest
returns-in_ok-skip_until-in-Err-clause-rest g c =
    rest_passed _ _ _ _ c.read_beginning.ensures.bytes (c.read_beginning.ensures.goes_on (search rules))
    c.in_ok-skip_until-in-Err.ensures.rest

use Rattle.std.proofs.Common.{rules}
use Rattle.live_lines.proofs.Grammar.{user_line_refused}
use Rattle.live_lines.proofs.parsing.parse_live_line.Goals as goal

pub returns-then-not-is_operators-clause-fault : goal.returns-then-not-is_operators-clause-fault
returns-then-not-is_operators-clause-fault c =
    user_line_refused _ c.args.line.now c.of.result c.parse_user_line.result (search rules) (search rules)
    c.parse_user_line.ensures.fault

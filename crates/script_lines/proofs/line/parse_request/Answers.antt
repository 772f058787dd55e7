use Rattle.std.proofs.Common.{rules}
use Rattle.script_lines.specs.Lines.{IsOf}
use Rattle.script_lines.proofs.Arguments.{request_refused}
use Rattle.script_lines.proofs.line.parse_request.Goals as goal

pub returns-clause-fault : goal.returns-clause-fault
returns-clause-fault c =
    let of : IsOf c.args.words c.in-Some-of.verb c.take.new.self = search rules in
    request_refused c.args.words c.in-Some-of.verb c.take.new.self c.parse_command.result
    of c.parse_command.ensures.fault

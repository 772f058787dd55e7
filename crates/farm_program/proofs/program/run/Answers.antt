use Rattle.std.proofs.Common.{rules, map, inr}
use Rattle.farm_cli.specs.Endings.{EndsByWords}
use Rattle.farm_program.proofs.program.run.Goals as goal

pub returns-in-Err-clause-words : goal.returns-in-Err-clause-words
returns-in-Err-clause-words g c =
    let output = g.W.Write.contents in
    let errors = g.E.Write.contents in
    let ends : EndsByWords (map g.S.AsStr.text c.args.words.now) c.end_by_error.result
    (output c.args.output.now) (output c.end_by_error.new.output)
    (errors c.args.errors.now) (errors c.end_by_error.new.errors) = search rules in
    inr (c.end_by_error.result.stderr_written, ends)

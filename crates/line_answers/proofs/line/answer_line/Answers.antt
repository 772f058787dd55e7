use Rattle.line_answers.proofs.Lines.{last_answered}
use Rattle.line_answers.proofs.line.answer_line.Goals as goal

pub returns-clause-list : goal.returns-clause-list
returns-clause-list g c = (c.ask_line-ended.ensures.told, c.ask_line-ended.ensures.gains)

pub returns-clause-line : goal.returns-clause-line
returns-clause-line g c =
    last_answered c.write_line.result c.args.name.now c.args.command.now c.args.session.now c.ask_line-ended.new.session
    c.ask_line-ended.result c.ask_line-ended.ensures
    c.commands-before.result.now c.commands.result.now _ _ c.commands-before.ensures c.commands.ensures
    c.write_line.ensures.memory
    c.write_line.ensures.text

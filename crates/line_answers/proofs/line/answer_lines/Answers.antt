use Rattle.std.proofs.Common.{Bor, List, [], map, string_bytes, subst, sym}
use Rattle.std.proofs.lemmas.List.{take_all}
use Rattle.script_lines.specs.declared.command.Command.{Command}
use Rattle.line_answers.specs.Sessions.{AreAnswered}
use Rattle.line_answers.proofs.Lines.{none_shown, lent_more, gains_more}
use Rattle.line_answers.proofs.line.answer_lines.Goals as goal

pub loop-command-init : goal.loop-command-init
loop-command-init g c =
    subst (λ screen. AreAnswered c.args.name.now [] c.args.session.now c.args.session.now screen) (sym c.requires)
    (none_shown c.args.name.now c.args.session.now)

pub returns-in_err-answer_line-clause-list : goal.returns-in_err-answer_line-clause-list
returns-in_err-answer_line-clause-list g c =
    gains_more c.args.session.now c.loop-command.session c.answer_line.new.session
    (c.loop-command.invariant.told, c.loop-command.invariant.gains) c.in_err-answer_line.ensures.list

pub returns-then-matches-clause-list : goal.returns-then-matches-clause-list
returns-then-matches-clause-list g c =
    gains_more c.args.session.now c.loop-command.session c.answer_line.new.session
    (c.loop-command.invariant.told, c.loop-command.invariant.gains) c.in_ok-answer_line.ensures.list

pub loop-command-preserved : goal.loop-command-preserved
loop-command-preserved g c =
    lent_more c.args.name.now c.args.commands.now c.loop-command.command-index _ c.command-item.result
    c.args.session.now c.loop-command.session c.answer_line.new.session _ _ c.loop-command-test.true c.command-item.is
    c.loop-command.invariant c.in_ok-answer_line.ensures.line

pub returns-clause-list : goal.returns-clause-list
returns-clause-list g c = (c.loop-command.invariant.told, c.loop-command.invariant.gains)

pub returns-clause-lines : goal.returns-clause-lines
returns-clause-lines g c =
    subst (λ (commands : List (Bor Command)).
    AreAnswered c.args.name.now (map (λ command. command.now) commands) c.args.session.now c.loop-command.session
    (string_bytes c.loop-command.screen))
    (take_all c.loop-command.command-index c.args.commands.now c.loop-command-test.false) c.loop-command.invariant

use Rattle.std.proofs.Common.{◌∙◌, List, ap, map, refl}
use Rattle.std.proofs.lemmas.Bool.{ne_eqb}
use Rattle.std.proofs.lemmas.List.{take_all}
use Rattle.script_lines.specs.declared.script.ScriptLine.{ScriptLine}
use Rattle.farm_program.specs.Users.{commands_at}
use Rattle.farm_program.proofs.Openings.{line_of_user, line_of_another}
use Rattle.farm_program.proofs.users.commands_at.Goals as goal
use Rattle.farm_program.proofs.users.commands_at.Goals.{then-line-place+in_ok-push, else-line-place}

pub loop-line-preserved : goal.loop-line-preserved
loop-line-preserved c = elim c.if-line-place.branch [
  | then-line-place+in_ok-push w ↦
      line_of_user c.args.lines.now c.loop-line.line-index c.args.place c.line-item.result c.loop-line.commands.items
      c.if-line-place.commands.items _ c.loop-line-test.true c.line-item.is w.if-line-place.true
      c.loop-line.invariant (ap (λ commands. commands.items) w.commands-is ∙ w.in_ok-push.ensures.items) refl
  | else-line-place w ↦
      ap (λ commands. map (λ c. c.now) commands.items) w.commands-is
      ∙ line_of_another c.args.lines.now c.loop-line.line-index c.args.place c.line-item.result
      c.loop-line.commands.items c.loop-line-test.true c.line-item.is
      (ne_eqb c.line-item.result.user c.args.place w.if-line-place.false) c.loop-line.invariant
]

pub returns : goal.returns
returns c =
    c.loop-line.invariant
    ∙ ap (λ (lines : List ScriptLine). commands_at lines c.args.place)
    (take_all c.loop-line.line-index c.args.lines.now c.loop-line-test.false)

use Rattle.std.proofs.Common.{map, take, string_bytes}
use Rattle.line_answers.specs.Sessions.{AreAnswered}
use Rattle.line_answers.proofs.line.answer_lines.Given as goal

abbrev pub invariant-loop-command : goal.invariant-loop-command
invariant-loop-command g l =
    AreAnswered l.name (map (λ c. c.now) (take l.command-index l.commands)) l.fn.session l.session
    (string_bytes l.screen)

use Rattle.std.proofs.Common.{◌≡◌, ◌↔◌, length}
use Rattle.lab_words.specs.Rows.{expected_lines}
use Rattle.lab_words.proofs.questions.are_the_lines.Given as goal

abbrev pub invariant-loop-next : goal.invariant-loop-next
invariant-loop-next l = (l.answer ≡ expected_lines l.expected) ↔ (l.rest ≡ expected_lines l.unmatched)

abbrev pub decreases-loop-next : goal.decreases-loop-next
decreases-loop-next l = length l.unmatched

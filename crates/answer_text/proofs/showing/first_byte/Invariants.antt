use Rattle.std.proofs.Common.{◌≡◌, length}
use Rattle.answer_text.specs.Results.{replies_told}
use Rattle.answer_text.specs.Results.{bytes_read}
use Rattle.answer_text.proofs.showing.first_byte.Given as goal

abbrev pub invariant-loop-first : goal.invariant-loop-first
invariant-loop-first l = bytes_read (replies_told l.told) ≡ bytes_read (replies_told l.rest)

abbrev pub decreases-loop-first : goal.decreases-loop-first
decreases-loop-first l = length l.rest

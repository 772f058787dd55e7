use Rattle.std.proofs.Common.{◌≡◌, ◌+◌, ℕ, length}
use Rattle.std.specs.Prelude.{IfSome, slice_get}
use Rattle.script_text.specs.Lines.{from_line, IsLine}
use Rattle.script_text.proofs.numbered.numbered_lines.Given as goal

-- the lines so far are before the rest
abbrev pub invariant-loop-rest : goal.invariant-loop-rest
invariant-loop-rest l =
    (l.rest ≡ from_line (length l.lines.items) l.text)
    × ((k : ℕ) → IfSome (slice_get l.lines.items k) (λ line. IsLine l.text k line.text.now))
    × ((k : ℕ) → IfSome (slice_get l.lines.items k) (λ line. line.number ≡ k + 1))

abbrev pub decreases-loop-rest : goal.decreases-loop-rest
decreases-loop-rest l = length l.rest

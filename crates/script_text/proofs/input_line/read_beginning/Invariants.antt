use Rattle.std.proofs.Common.{◌≢◌, ◌+◌, ◌≤◌, All, length, vec_items}
use Rattle.std.specs.Io.KnownBytes.{Consumes}
use Rattle.script_text.proofs.input_line.read_beginning.Given as goal

-- what was read so far is the beginning of a line, without its line feed
abbrev pub invariant-loop-turn : goal.invariant-loop-turn
invariant-loop-turn g l =
    (length (vec_items l.bytes) ≤ l.fn.most + 1) × All (λ x. x ≢ 10) (vec_items l.bytes)
    × Consumes (g.R.Read.remaining l.initial.input) (g.R.Read.remaining l.input) (vec_items l.bytes)

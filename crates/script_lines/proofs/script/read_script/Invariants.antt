use Rattle.std.proofs.Common.{ℕ, List, Bor, ◌+◌, ◌≤◌, length, map}
use Rattle.script_lines.proofs.Readings.{IsReadTo}
use Rattle.script_lines.proofs.script.read_script.Given as goal

abbrev pub invariant-loop-rest : goal.invariant-loop-rest
invariant-loop-rest l =
    IsReadTo (map {A = Bor (List ℕ)} {B = List ℕ} (λ n. n.now) l.names) l.script l.rest l.asked.items l.number
    × (l.number + length l.rest ≤ length l.script)

abbrev pub decreases-loop-rest : goal.decreases-loop-rest
decreases-loop-rest l = length l.rest

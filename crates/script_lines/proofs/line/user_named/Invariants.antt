use Rattle.std.proofs.Common.{ℕ, List, Bor, ◌<◌, map}
use Rattle.script_lines.specs.Lines.{IsUserName}
use Rattle.script_lines.proofs.line.user_named.Given as goal

abbrev pub invariant-loop-user : goal.invariant-loop-user
invariant-loop-user l =
    (k : ℕ) → k < l.user → ¬ IsUserName (map {A = Bor (List ℕ)} {B = List ℕ} (λ n. n.now) l.names) l.name k

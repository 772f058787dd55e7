use Rattle.std.proofs.Common.{◌≢◌, ◌-◌, ◌≤◌, All, length, take}
use Rattle.script_text.proofs.input_line.taken_of.Given as goal

-- the line feed isn't among the bytes so far
abbrev pub invariant-loop-count : goal.invariant-loop-count
invariant-loop-count l = (l.count ≤ length l.shown) × (l.count ≤ l.most) × All (λ x. x ≢ 10) (take l.count l.shown)

abbrev pub decreases-loop-count : goal.decreases-loop-count
decreases-loop-count l = length l.shown - l.count

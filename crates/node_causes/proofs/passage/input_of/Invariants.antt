use Rattle.std.proofs.Common.{◌≡◌, ◌<◌, ℕ, false}
use Rattle.crossbar.specs.Switch.{drives}
use Rattle.domain_core.specs.MachineValue.{machine_of}
use Rattle.node_causes.proofs.passage.input_of.Given as goal

-- no input so far drives the output
abbrev pub invariant-loop-input : goal.invariant-loop-input
invariant-loop-input l =
    (l.moment ≡ l.fn.moment)
    × ((p : ℕ) → p < l.input → drives (machine_of l.fn.moment.machine).switch p l.fn.output ≡ false)

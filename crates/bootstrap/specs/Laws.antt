-- What holds of the Steps of every node.
use Rattle.std.specs.Prelude.{◌≡◌, ℕ, ◌+◌, length, true, false, Option, Some, None}
use Rattle.node_memory.specs.declared.fault.Fault.{Fault}
use Rattle.t414_step.specs.declared.stepping.Stepped.{Stepped}
use Rattle.t414_step.specs.declared.stepping.Stepped.TheVariants as code
use Rattle.bootstrap.specs.Step.{node_step, is_step_recorded, is_quiet}
use Rattle.bootstrap.specs.Steps.{after_steps, IsAfter, last_answer}
use Rattle.bootstrap.specs.declared.node.Node.{Node}
use Rattle.bootstrap.specs.declared.state.NodeState.TheVariants.{Halted}

-- a Step that would not be recorded changes nothing
abbrev pub QuietStepChangesNothing : Type 0
QuietStepChangesNothing = (n : Node) → is_quiet n ≡ true → (node_step n).0 ≡ n

-- a fault leaves a node that has halted by it
abbrev pub FaultHalts : Type 0
FaultHalts =
    (n : Node) (fault : Fault) → (node_step n).1 ≡ code.Fault fault → (node_step n).0.state ≡ Halted fault

-- a Step that isn't quiet is recorded
abbrev pub BusyStepIsRecorded : Type 0
BusyStepIsRecorded = (n : Node) → is_quiet n ≡ false → is_step_recorded n ≡ true

-- a recorded Step that leaves a node whose next Step is recorded too answered Ran
abbrev pub RecordedStepRan : Type 0
RecordedStepRan =
    (n : Node) → is_step_recorded n ≡ true → is_step_recorded (node_step n).0 ≡ true
    → (node_step n).1 ≡ code.Ran

-- the last answer of later Steps, or of those before them if there are no later ones
abbrev pub later_or : Option Stepped → Option Stepped → Option Stepped
later_or None before = before
later_or (Some answer) before = Some answer

-- recorded Steps after recorded Steps are recorded Steps
abbrev pub StepsAddUp : Type 0
StepsAddUp = (x y z : Node) (j k : ℕ) → IsAfter x j y → IsAfter y k z → IsAfter x (j + k) z

-- the last answer of j + k Steps is that of the k later ones, or else that of the j before
abbrev pub LastAnswersAddUp : Type 0
LastAnswersAddUp =
    (x y : Node) (j k : ℕ) → IsAfter x j y
    → last_answer (j + k) x ≡ later_or (last_answer k y) (last_answer j x)

-- no Step changes how many bytes memory has
abbrev pub StepKeepsTheSize : Type 0
StepKeepsTheSize = (n : Node) → length (node_step n).0.memory ≡ length n.memory

-- and neither do several
abbrev pub StepsKeepTheSize : Type 0
StepsKeepTheSize = (k : ℕ) (n : Node) → length (after_steps k n).memory ≡ length n.memory

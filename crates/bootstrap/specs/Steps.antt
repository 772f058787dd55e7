-- Several Steps of a node.
use Rattle.std.specs.Prelude.{◌≡◌, ℕ, zero, suc, ◌<◌, ◌≤◌, true, List, Option, Some, None}
use Rattle.link_channels.specs.declared.link.FourLinks.{FourLinks}
use Rattle.t414_step.specs.declared.cpu.Cpu.{Cpu}
use Rattle.t414_step.specs.declared.stepping.Stepped.{Stepped}
use Rattle.t414_step.specs.declared.stepping.Stepped.TheVariants as code
use Rattle.bootstrap.specs.Step.{node_step, is_step_recorded, is_quiet}
use Rattle.bootstrap.specs.declared.burst.Burst.{Burst}
use Rattle.bootstrap.specs.declared.node.Node.{Node}
use Rattle.bootstrap.specs.declared.state.NodeState.{NodeState}
use Rattle.bootstrap.specs.declared.state.NodeState.TheVariants.{Runs, Halted}

-- the node after this number of Steps
unfoldable pub after_steps : ℕ → Node → Node
after_steps zero n = n
after_steps (suc k) n = (node_step (after_steps k n)).0

-- what the last of them answered
unfoldable pub last_answer : ℕ → Node → Option Stepped
last_answer zero n = None
last_answer (suc k) n = Some (node_step (after_steps k n)).1

-- k Steps lead from x to y, and each of them would be recorded
pub record IsAfter (x : Node) (k : ℕ) (y : Node) : Type 0 where
  pub node : after_steps k x ≡ y
  pub recorded : (i : ℕ) → i < k → is_step_recorded (after_steps i x) ≡ true

-- a burst of up to n Steps from x leaves y: it ends at the nth, or before the first that would not be recorded
pub record IsBurst (n : ℕ) (x : Node) (burst : Burst) (y : Node) : Type 0 where
  pub steps : IsAfter x burst.steps y
  pub last : burst.last ≡ last_answer burst.steps x
  pub most : burst.steps ≤ n
  pub ends : burst.steps < n → is_quiet y ≡ true

-- a node that runs
abbrev pub running : Cpu → FourLinks → List ℕ → Node
running s ls m = record { memory = m; links = ls; state = Runs s }

-- what it does after its last answer: a fault has halted it
abbrev pub state_after : Option Stepped → Cpu → NodeState
state_after None s = Runs s
state_after (Some code.Ran) s = Runs s
state_after (Some code.Idle) s = Runs s
state_after (Some (code.Fault fault)) s = Halted fault

-- the node that a burst leaves, by its last answer and what the processor left
abbrev pub left_by : Option Stepped → Cpu → FourLinks → List ℕ → Node
left_by last s ls m = record { memory = m; links = ls; state = state_after last s }

-- what the last of this number of Steps answered, if each of them ran
abbrev pub last_of_ran : ℕ → Option Stepped
last_of_ran zero = None
last_of_ran (suc k) = Some code.Ran

-- A node as it is examined outside a farm. Our own: the chip shows its registers to nobody.
use Rattle.std.specs.Prelude.{ℕ, List, Option, Some, None}
use Rattle.link_channels.specs.declared.link.FourLinks.{FourLinks}
use Rattle.t414_step.specs.declared.cpu.Cpu.{Cpu}
use Rattle.bootstrap.specs.declared.node.Node.{Node}
use Rattle.bootstrap.specs.declared.state.NodeState.{NodeState}
use Rattle.bootstrap.specs.declared.state.NodeState.TheVariants.{WantsControl, Takes, Answers, Runs, Halted}

-- the registers of what runs
abbrev pub registers_of : NodeState → Option Cpu
registers_of (Runs registers) = Some registers
registers_of WantsControl = None
registers_of (Takes link task) = None
registers_of (Answers link left word) = None
registers_of (Halted fault) = None

-- a node that runs with these registers
abbrev pub running_with : List ℕ → FourLinks → Cpu → Node
running_with memory links registers = record { memory = memory; links = links; state = Runs registers }

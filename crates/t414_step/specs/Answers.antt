-- The code's answers, with what it left. After a fault the registers are given up.
use Rattle.std.specs.Prelude.{ℕ, Bool, true, false, not, List, Result, Ok, Err}
use Rattle.node_memory.specs.Effect.{Gave, Halted}
use Rattle.node_memory.specs.declared.fault.Fault.{Fault}
use Rattle.link_channels.specs.declared.link.FourLinks.{FourLinks}
use Rattle.t414_step.specs.ChannelRows.{CpuEffect}
use Rattle.t414_step.specs.Step.{StepEffect}
use Rattle.t414_step.specs.declared.cpu.Cpu.{Cpu}
use Rattle.t414_step.specs.declared.stepping.Stepped.{Stepped}
use Rattle.t414_step.specs.declared.stepping.Stepped.TheVariants as code

-- the answer of an instruction
abbrev pub finished : Result (Unit {0}) Fault → Cpu → FourLinks → List ℕ → CpuEffect
finished (Ok _) s ls m = Gave s ls m
finished (Err fault) s ls m = Halted fault ls m

-- the answer of a step
abbrev pub step_answer_of : Stepped → Cpu → FourLinks → List ℕ → StepEffect
step_answer_of code.Ran s ls m = Gave (true, s) ls m
step_answer_of code.Idle s ls m = Gave (false, s) ls m
step_answer_of (code.Fault fault) s ls m = Halted fault ls m

-- an answer that there was nothing to do
abbrev pub is_idle : Stepped → Bool
is_idle code.Ran = false
is_idle code.Idle = true
is_idle (code.Fault fault) = false

-- a step's answer that there was nothing to do
abbrev pub tells_idle : StepEffect → Bool
tells_idle (Gave x ls m) = not x.0
tells_idle (Halted fault ls m) = false

-- Several steps, one after another.
use Rattle.std.specs.Prelude.{ℕ, zero, suc, true, false, List, Option, Some, None}
use Rattle.node_memory.specs.Effect.{Gave, Halted}
use Rattle.link_channels.specs.declared.link.FourLinks.{FourLinks}
use Rattle.t414_step.specs.declared.cpu.Cpu.{Cpu}
use Rattle.t414_step.specs.Step.{StepEffect, step}

-- one more step, which follows only a step that ran
abbrev pub then_step : Option StepEffect → Option StepEffect
then_step (Some (Gave (true, s) ls m)) = Some (step s ls m)
then_step (Some (Gave (false, s) ls m)) = None
then_step (Some (Halted fault ls m)) = None
then_step None = None

-- what the last of this number of steps answers, if all before it ran; none if one of them didn't
unfoldable pub nth_step : ℕ → Cpu → FourLinks → List ℕ → Option StepEffect
nth_step zero s ls m = Some (Gave (true, s) ls m)
nth_step (suc k) s ls m = then_step (nth_step k s ls m)

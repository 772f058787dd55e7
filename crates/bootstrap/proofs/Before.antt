-- What was before the last of a processor's steps, for the clause `burst` of `run`.
use Rattle.std.proofs.Common.{◌≡◌, ℕ, zero, suc, true, false, List, Option, Some, None, refl, ◌∙◌, sym}
use Rattle.node_memory.specs.Effect.{Gave, Halted}
use Rattle.link_channels.specs.declared.link.FourLinks.{FourLinks}
use Rattle.t414_step.specs.declared.cpu.Cpu.{Cpu}
use Rattle.t414_step.specs.Step.{StepEffect, step}
use Rattle.t414_step.specs.Steps.{nth_step, then_step}

-- no steps leave the processor as it is
pub no-nth-step : (s : Cpu) (ls : FourLinks) (m : List ℕ) → nth_step zero s ls m ≡ Some (Gave (true, s) ls m)
unfolding nth_step
no-nth-step s ls m = refl

one-more-step : (k : ℕ) (s : Cpu) (ls : FourLinks) (m : List ℕ)
    → nth_step (suc k) s ls m ≡ then_step (nth_step k s ls m)
unfolding nth_step
one-more-step k s ls m = refl

-- the processor before a step that answers so
pub record RanBefore (o : Option StepEffect) (answer : StepEffect) : Type 0 where
  pub cpu : Cpu
  pub links : FourLinks
  pub memory : List ℕ
  pub is : o ≡ Some (Gave (true, cpu) links memory)
  pub next : step cpu links memory ≡ answer

before : (effect : Option StepEffect) (answer : StepEffect) → then_step effect ≡ Some answer → RanBefore effect answer
before (Some (Gave (true, s) ls m)) answer same = record { cpu = s; links = ls; memory = m; is = refl; next = cc }
before (Some (Gave (false, s) ls m)) answer same = cc
before (Some (Halted fault ls m)) answer same = cc
before None answer same = cc

-- all steps before the last ran
pub ran-before : (k : ℕ) (s : Cpu) (ls : FourLinks) (m : List ℕ) (answer : StepEffect)
    → nth_step (suc k) s ls m ≡ Some answer
    → RanBefore (nth_step k s ls m) answer
ran-before k s ls m answer same = before (nth_step k s ls m) answer (sym (one-more-step k s ls m) ∙ same)

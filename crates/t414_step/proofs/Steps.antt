-- Steps counted one by one, and those of a process whose bytes follow one another.
use Rattle.std.proofs.Common.{◌≡◌, ℕ, zero, suc, ◌+◌, ◌<◌, ◌==◌, Bool, true, false, if◌then◌else◌}
use Rattle.std.proofs.Common.{List, Some, Ok, refl, ◌∙◌, ap, sym, arith, add-one}
use Rattle.std.proofs.Math.Nat.{add-zero, add-suc}
use Rattle.node_memory.specs.Effect.{Effect, Gave, ◌>>=◌, beside, effect_of}
use Rattle.link_channels.specs.declared.link.FourLinks.{FourLinks}
use Rattle.link_channels.specs.Laws.{ServiceLeavesTheRest}
use Rattle.link_channels.specs.Links.{any_has_work}
use Rattle.t414_step.specs.declared.cpu.Cpu.{Cpu}
use Rattle.t414_step.specs.ChannelRows.{CpuEffect}
use Rattle.t414_step.specs.Rows.{slice}
use Rattle.t414_step.specs.Step.{StepEffect, stepped, resumption, byte_done, step}
use Rattle.t414_step.specs.Steps.{nth_step, then_step}

-- no steps leave the processor as it is
pub steps-zero : (s : Cpu) (ls : FourLinks) (m : List ℕ) → nth_step zero s ls m ≡ Some (Gave (true, s) ls m)
unfolding nth_step
steps-zero s ls m = refl

-- one more step follows those before it
pub steps-suc : (k : ℕ) (s : Cpu) (ls : FourLinks) (m : List ℕ)
    → nth_step (suc k) s ls m ≡ then_step (nth_step k s ls m)
unfolding nth_step
steps-suc k s ls m = refl

-- one more step after steps that ran
pub steps-more : (k : ℕ) (s t : Cpu) (ls ks : FourLinks) (m n : List ℕ) (answer : StepEffect)
    → nth_step k s ls m ≡ Some (Gave (true, t) ks n) → step t ks n ≡ answer
    → nth_step (k + 1) s ls m ≡ Some answer
steps-more k s t ls ks m n answer same equal =
    ap (λ (i : ℕ). nth_step i s ls m) (add-one k) ∙ steps-suc k s ls m ∙ ap then_step same
    ∙ ap (λ (a : StepEffect). Some a) equal

-- one step answers as the step does
pub one-step : (s : Cpu) (ls : FourLinks) (m : List ℕ) (answer : StepEffect) → step s ls m ≡ answer
    → nth_step 1 s ls m ≡ Some answer
one-step s ls m answer same = steps-more 0 s s ls ls m m answer (steps-zero s ls m) same

-- steps after steps that ran
pub steps-add : (j k : ℕ) (s t : Cpu) (ls ks : FourLinks) (m n : List ℕ)
    → nth_step j s ls m ≡ Some (Gave (true, t) ks n)
    → nth_step (j + k) s ls m ≡ nth_step k t ks n
steps-add j zero s t ls ks m n same = ap (λ (i : ℕ). nth_step i s ls m) (add-zero j) ∙ same ∙ sym (steps-zero t ks n)
steps-add j (suc k) s t ls ks m n same =
    ap (λ (i : ℕ). nth_step i s ls m) (add-suc j k) ∙ steps-suc (j + k) s ls m
    ∙ ap then_step (steps-add j k s t ls ks m n same) ∙ sym (steps-suc k t ks n)

-- if the first step of both is the same, so are those after it
pub same-first : (k : ℕ) (s t : Cpu) (ls : FourLinks) (m : List ℕ) → step s ls m ≡ step t ls m → 0 < k
    → nth_step k s ls m ≡ nth_step k t ls m
same-first zero s t ls m same some = absurd (omega arith)
same-first (suc zero) s t ls m same some = one-step s ls m (step t ls m) same ∙ sym (one-step t ls m (step t ls m) refl)
same-first (suc (suc k)) s t ls m same some =
    steps-suc (suc k) s ls m ∙ ap then_step (same-first (suc k) s t ls m same (omega arith))
    ∙ sym (steps-suc (suc k) t ls m)

processed-if : (b : Bool) (effect other_effect : StepEffect) → b ≡ true → (if b then effect else other_effect) ≡ effect
processed-if true effect other_effect same = refl
processed-if false effect other_effect same = cc

-- what comes of a look at the queue, whether a link acted or not: a byte of the process that goes on, or no more
abbrev pub after_look : Bool → FourLinks → Effect Bool Cpu → StepEffect
after_look acted ls effect = do
  (goes_on, s, m) ← beside ls effect
  if goes_on then stepped (byte_done s ls m) else Gave (acted, s) ls m

-- the step of a processor that runs, if no link has work
pub byte-step : ServiceLeavesTheRest
    → (s : Cpu) (ls : FourLinks) (m : List ℕ) → any_has_work ls ≡ false → s.running ≡ true
    → step s ls m ≡ stepped (byte_done s ls m)
unfolding step
byte-step rests s ls m rest runs =
    rw (rests ls s.queue m rest)
    (processed-if s.running (stepped (byte_done s ls m)) (after_look false ls (resumption s m)) runs)

processed-else : (b : Bool) (effect other_effect : StepEffect) → b ≡ false
    → (if b then effect else other_effect) ≡ other_effect
processed-else true effect other_effect same = cc
processed-else false effect other_effect same = refl

-- the step of one with no current process, if no link has work
pub looking-step : ServiceLeavesTheRest
    → (s : Cpu) (ls : FourLinks) (m : List ℕ) (effect : Effect Bool Cpu) → any_has_work ls ≡ false → s.running ≡ false
    → effect ≡ resumption s m
    → step s ls m ≡ after_look false ls effect
unfolding step
looking-step rests s ls m effect rest stands same =
    rw (rests ls s.queue m rest)
    (processed-else s.running (stepped (byte_done s ls m)) (after_look false ls (resumption s m)) stands
    ∙ sym (ap (after_look false ls) same))

-- an instruction byte is one more step, if no link has work
pub byte-more : ServiceLeavesTheRest
    → (k : ℕ) (s t : Cpu) (ls : FourLinks) (m n : List ℕ) (effect : CpuEffect) → any_has_work ls ≡ false
    → nth_step k s ls m ≡ Some (Gave (true, t) ls n) → t.running ≡ true → effect ≡ byte_done t ls n
    → nth_step (k + 1) s ls m ≡ Some (stepped effect)
byte-more rests k s t ls m n effect rest same runs equal =
    steps-more k s t ls ls m n (stepped effect) same (byte-step rests t ls n rest runs ∙ ap stepped (sym equal))

-- a process that has had fewer bytes isn't sliced
pub unsliced : (s : Cpu) (ls : FourLinks) (m : List ℕ) → s.bytes < 1024 → slice s ls m ≡ Gave s ls m
unsliced s ls m few = let ne : (s.bytes == 1024) ≡ false = grind arith in rw ne refl

-- a count that is the same changes nothing
pub recounted : (s : Cpu) (b : ℕ) → s.bytes ≡ b → s ≡ record s { bytes = b }
recounted s b same = rw (sym same) refl

-- a process that is taken from the queue steps as if it had been there
pub resumed-step : ServiceLeavesTheRest
    → (s t : Cpu) (ls : FourLinks) (m : List ℕ) → any_has_work ls ≡ false → s.running ≡ false
    → Gave true t m ≡ resumption s m → t.running ≡ true
    → step s ls m ≡ step t ls m
resumed-step rests s t ls m rest stands same runs =
    looking-step rests s ls m (Gave true t m) rest stands same ∙ sym (byte-step rests t ls m rest runs)

-- what the code's answer of a look says
pub took-as : (flag other_flag : Bool) (t : Cpu) (m : List ℕ) (effect : Effect Bool Cpu) → flag ≡ other_flag
    → effect_of (Ok flag) t m ≡ effect
    → Gave other_flag t m ≡ effect
took-as flag other_flag t m effect is same = rw (← is) same

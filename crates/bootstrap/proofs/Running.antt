-- Bursts: the Steps of a processor as those of its node, and bursts after Steps.
use Rattle.std.proofs.Common.{◌≡◌, ℕ, zero, suc, ◌+◌, ◌-◌, ◌<◌, ◌≤◌, Bool, true, false, not, List}
use Rattle.std.proofs.Common.{Option, Some, None, refl, ◌∙◌, ap, sym, subst, arith, add-one}
use Rattle.node_memory.specs.declared.fault.Fault.{Fault}
use Rattle.node_memory.specs.Effect.{Gave, Halted}
use Rattle.link_channels.specs.declared.link.FourLinks.{FourLinks}
use Rattle.link_channels.specs.Laws.{ServiceLeavesTheRest}
use Rattle.t414_step.specs.declared.cpu.Cpu.{Cpu}
use Rattle.t414_step.specs.declared.stepping.Stepped.{Stepped}
use Rattle.t414_step.specs.declared.stepping.Stepped.TheVariants as code
use Rattle.t414_step.specs.Answers.{is_idle, tells_idle}
use Rattle.t414_step.specs.Laws.{IdleWhereItRests}
use Rattle.t414_step.specs.Registers.{has_nothing_to_do}
use Rattle.t414_step.specs.Step.{StepEffect, step}
use Rattle.t414_step.specs.Steps.{nth_step}
use Rattle.bootstrap.specs.Laws.{later_or}
use Rattle.bootstrap.specs.Step.{node_step, ran, has_halted, is_step_recorded, is_quiet}
use Rattle.bootstrap.specs.Steps.{last_answer, IsAfter, IsBurst, last_of_ran, running, left_by}
use Rattle.bootstrap.specs.declared.burst.Burst.{Burst}
use Rattle.bootstrap.specs.declared.node.Node.{Node}
use Rattle.bootstrap.specs.declared.state.NodeState.{NodeState}
use Rattle.bootstrap.specs.declared.state.NodeState.TheVariants.{Runs}
use Rattle.bootstrap.proofs.Counting.{no-steps, one-more, last-more, after-add}
use Rattle.bootstrap.proofs.Counting.{last-add, last_answer-zero, last_answer-suc}
use Rattle.bootstrap.proofs.Before.{no-nth-step, ran-before}
use Rattle.bootstrap.proofs.Resting.{not-not, resting-step, quiet-runs}

-- the processor's Step as the node's
pub ran-step : (s t : Cpu) (ls ks : FourLinks) (m n : List ℕ) → Gave (true, t) ks n ≡ step s ls m
    → node_step (running s ls m) ≡ (running t ks n, code.Ran)
unfolding node_step
ran-step s t ls ks m n same = sym (ap ran same)

-- a step that meets a fault halts its node
pub broke-step : (fault : Fault) (s : Cpu) (ls ks : FourLinks) (m n : List ℕ) → Halted fault ks n ≡ step s ls m
    → node_step (running s ls m) ≡ (left_by (Some (code.Fault fault)) s ks n, code.Fault fault)
unfolding node_step
broke-step fault s ls ks m n same = sym (ap ran same)

-- a step that runs or is idle leaves this node
same-left : (s t : Cpu) (ls ks : FourLinks) (m n : List ℕ) (flag other_flag : Bool)
    → ◌≡◌ {A = StepEffect} (Gave (flag, t) ks n) (Gave (other_flag, s) ls m) → flag ≡ other_flag
    → running s ls m ≡ running t ks n
same-left s t ls ks m n true true equal same = sym (ap (λ (r : StepEffect). (ran r).0) equal)
same-left s t ls ks m n false false equal same = sym (ap (λ (r : StepEffect). (ran r).0) equal)
same-left s t ls ks m n true false equal same = cc
same-left s t ls ks m n false true equal same = cc

-- an idle step of a processor that has nothing to do changes nothing
pub idle-stays : ServiceLeavesTheRest
    → (s t : Cpu) (ls ks : FourLinks) (m n : List ℕ)
    → Gave (false, t) ks n ≡ step s ls m → true ≡ has_nothing_to_do s ls
    → running s ls m ≡ running t ks n
idle-stays rests s t ls ks m n same equal = same-left s t ls ks m n false false
    (same ∙ resting-step rests s ls m (sym equal)) refl

-- a Step that answers so is recorded
recorded-by : (n : Node) (answer : Stepped)
    → has_halted n.state ≡ false → (node_step n).1 ≡ answer → is_idle answer ≡ false
    → is_step_recorded n ≡ true
recorded-by n answer same equal agrees = rw (same, equal, agrees) refl

-- a Step of a node that runs is one more, and is the last
pub runs-more : (x y : Node) (k : ℕ) (s : Cpu) (ls : FourLinks) (m : List ℕ) (answer : Stepped)
    → IsAfter x k (running s ls m) → node_step (running s ls m) ≡ (y, answer) → is_idle answer ≡ false
    → IsAfter x (k + 1) y × (Some answer ≡ last_answer (k + 1) x)
runs-more x y k s ls m answer after same busy =
    let answers : (node_step (running s ls m)).1 ≡ answer = ap (λ (p : Node × Stepped). p.1) same in (
      one-more x (running s ls m) y k after (recorded-by (running s ls m) answer refl answers busy)
          (ap (λ (p : Node × Stepped). p.0) same),
      sym (last-more x (running s ls m) k answer after answers),
    )

-- a processor with nothing to do makes its node quiet
pub quiet-running : IdleWhereItRests → (s : Cpu) (ls : FourLinks) (m : List ℕ) → true ≡ has_nothing_to_do s ls
    → is_quiet (running s ls m) ≡ true
quiet-running idle s ls m same = quiet-runs idle (running s ls m) s refl ∙ sym same

later-some : (k : ℕ) (y : Node) (before : Option Stepped) → 0 < k → later_or (last_answer k y) before ≡ last_answer k y
later-some zero y before some = absurd (omega arith)
later-some (suc k) y before some = rw last_answer-suc refl

none-last : (k : ℕ) (y : Node) → k ≡ 0 → last_answer k y ≡ None
none-last k y same = ap (λ (i : ℕ). last_answer i y) same ∙ last_answer-zero y

burst-add : (n j : ℕ) (x y z : Node) (more : Burst) (last : Option Stepped)
    → j ≤ n → IsAfter x j y → IsBurst (n - j) y more z
    → last ≡ later_or (last_answer more.steps y) (last_answer j x)
    → IsBurst n x (record { steps = j + more.steps; last = last }) z
burst-add n j x y z more last le after burst same = record {
  steps = after-add x y z j more.steps after burst.steps;
  last = same ∙ sym (last-add x y j more.steps after);
  most = (let most : more.steps ≤ n - j = burst.most in omega arith);
  ends = λ lt. burst.ends (omega arith);
}

-- a burst after Steps is a burst
pub burst-after-none : (n j : ℕ) (x y z : Node) (more : Burst) (last : Option Stepped)
    → j ≤ n → IsAfter x j y → IsBurst (n - j) y more z → last ≡ last_answer j x
    → more.steps ≡ 0
    → IsBurst n x (record { steps = j + more.steps; last = last }) z
burst-after-none n j x y z more last le after burst same none =
    burst-add n j x y z more last le after burst
    (same ∙ sym (ap (λ (o : Option Stepped). later_or o (last_answer j x)) (none-last more.steps y none)))

-- Steps and then a burst are a burst of all
pub burst-after-some : (n j : ℕ) (x y z : Node) (more : Burst) → j ≤ n → IsAfter x j y → IsBurst (n - j) y more z
    → 0 < more.steps
    → IsBurst n x (record { steps = j + more.steps; last = more.last }) z
burst-after-some n j x y z more le after burst some =
    burst-add n j x y z more more.last le after burst
    (burst.last ∙ sym (later-some more.steps y (last_answer j x) some))

-- a Step of a node that isn't quiet is one more
pub steps-more : (x y z : Node) (k : ℕ) (quiet : Bool) (answer : Stepped)
    → IsAfter x k y → quiet ≡ is_quiet y → quiet ≡ false → (z, answer) ≡ node_step y
    → IsAfter x (k + 1) z × (Some answer ≡ last_answer (k + 1) x)
steps-more x y z k quiet answer after is busy same =
    let recorded : is_step_recorded y ≡ true = sym (not-not (is_step_recorded y)) ∙ ap not (sym is ∙ busy) in (
      one-more x y z k after recorded (sym (ap (λ (p : Node × Stepped). p.0) same)),
      sym (last-more x y k answer after (sym (ap (λ (p : Node × Stepped). p.1) same))),
    )

-- a node that is found running
pub found-running : (x n : Node) (k : ℕ) (s : Cpu) → IsAfter x k n → n.state ≡ Runs s
    → IsAfter x k (running s n.links n.memory)
found-running x n k s after same =
    subst (λ (st : NodeState). IsAfter x k (record { memory = n.memory; links = n.links; state = st })) same after

-- a processor's steps that ran, as those of its node
pub record Led (k : ℕ) (x y : Node) : Type 0 where
  pub after : IsAfter x k y
  pub last : last_of_ran k ≡ last_answer k x

-- steps that all ran lead a node that runs
pub steps-led : (k : ℕ) (s t : Cpu) (ls ks : FourLinks) (m n : List ℕ) → nth_step k s ls m ≡ Some (Gave (true, t) ks n)
    → Led k (running s ls m) (running t ks n)
steps-led zero s t ls ks m n equal =
    let none = no-nth-step s ls m in
    let left : ◌≡◌ {A = StepEffect} (Gave (true, s) ls m) (Gave (true, t) ks n) = cc in
    let same : running s ls m ≡ running t ks n = sym (same-left t s ks ls n m true true left refl) in
    record {
      after = subst (λ (y : Node). IsAfter (running s ls m) 0 y) same (no-steps (running s ls m));
      last = sym (last_answer-zero (running s ls m));
    }
steps-led (suc k) s t ls ks m n same =
    let before = ran-before k s ls m (Gave (true, t) ks n) same in
    let led = steps-led k s before.cpu ls before.links m before.memory before.is in
    let more = runs-more (running s ls m) (running t ks n) k before.cpu before.links before.memory code.Ran led.after
    (ran-step before.cpu t before.links ks before.memory n (sym before.next)) refl in
    record {
      after = subst (λ (i : ℕ). IsAfter (running s ls m) i (running t ks n)) (add-one k) more.0;
      last = more.1 ∙ ap (λ (i : ℕ). last_answer i (running s ls m)) (add-one k);
    }

-- a processor's steps, the last of them met a fault
pub steps-broke : (k : ℕ) (fault : Fault) (s t : Cpu) (ls ks : FourLinks) (m n : List ℕ)
    → 0 < k → nth_step k s ls m ≡ Some (Halted fault ks n)
    → IsAfter (running s ls m) k (left_by (Some (code.Fault fault)) t ks n)
    × (Some (code.Fault fault) ≡ last_answer k (running s ls m))
steps-broke zero fault s t ls ks m n some same = absurd (omega arith)
steps-broke (suc k) fault s t ls ks m n some same =
    let before = ran-before k s ls m (Halted fault ks n) same in
    let led = steps-led k s before.cpu ls before.links m before.memory before.is in
    let more =
    runs-more (running s ls m) (left_by (Some (code.Fault fault)) t ks n) k before.cpu before.links
    before.memory (code.Fault fault) led.after
    (broke-step fault before.cpu before.links ks before.memory n (sym before.next)) refl in (
      subst (λ (i : ℕ). IsAfter (running s ls m) i (left_by (Some (code.Fault fault)) t ks n)) (add-one k) more.0,
      more.1 ∙ ap (λ (i : ℕ). last_answer i (running s ls m)) (add-one k),
    )

-- a processor's steps, the last of them found nothing to do
pub record Rested (k : ℕ) (x y : Node) : Type 0 where
  pub after : IsAfter x k y
  pub last : last_of_ran k ≡ last_answer k x
  pub quiet : is_quiet y ≡ true

-- steps whose last is idle leave a node that is quiet, after all but that one
pub steps-rested : IdleWhereItRests
    → ServiceLeavesTheRest → (k : ℕ) (s t : Cpu) (ls ks : FourLinks) (m n : List ℕ)
    → nth_step (suc k) s ls m ≡ Some (Gave (false, t) ks n)
    → Rested k (running s ls m) (running t ks n)
steps-rested idle rests k s t ls ks m n same =
    let before = ran-before k s ls m (Gave (false, t) ks n) same in
    let led = steps-led k s before.cpu ls before.links m before.memory before.is in
    let nothing : true ≡ has_nothing_to_do before.cpu before.links =
    sym (ap tells_idle before.next) ∙ idle before.cpu before.links before.memory in
    let stays : running before.cpu before.links before.memory ≡ running t ks n =
    idle-stays rests before.cpu t before.links ks before.memory n (sym before.next) nothing in
    record {
      after = subst (λ (y : Node). IsAfter (running s ls m) k y) stays led.after;
      last = led.last;
      quiet =
          subst (λ (y : Node). is_quiet y ≡ true) stays
          (quiet-running idle before.cpu before.links before.memory nothing);
    }

-- steps that ran leave a node that runs
pub left-ran : (k : ℕ) (s : Cpu) (ls : FourLinks) (m : List ℕ) → running s ls m ≡ left_by (last_of_ran k) s ls m
left-ran zero s ls m = refl
left-ran (suc k) s ls m = refl

-- an answer that is none of a step that ran
pub some-idle : (k : ℕ) (answer : Stepped) → answer ≡ code.Idle → (¬ (answer ≡ code.Ran) → 0 < k) → 0 < k
some-idle k answer is some = some (λ e. let both : code.Idle ≡ code.Ran = sym is ∙ e in cc)

-- the same of a fault
pub some-fault : (k : ℕ) (fault : Fault) (answer : Stepped)
    → answer ≡ code.Fault fault → (¬ (answer ≡ code.Ran) → 0 < k)
    → 0 < k
some-fault k fault answer is some = some (λ e. let both : code.Fault fault ≡ code.Ran = sym is ∙ e in cc)

-- A step answers Idle exactly where there is nothing to do.
use Rattle.std.proofs.Common.{◌≡◌, ℕ, ◌==◌, Bool, true, false, not, ◌&&◌, List, Some}
use Rattle.std.proofs.Common.{Result, Ok, Err, if◌then◌else◌, refl, ◌∙◌, ap, sym}
use Rattle.node_memory.specs.declared.fault.Fault.{Fault}
use Rattle.node_memory.specs.Bytes.{word_at}
use Rattle.node_memory.specs.Effect.{Effect, Gave, Halted, ◌>>=◌, tried, perform, beside}
use Rattle.node_memory.specs.Marks.{not_process}
use Rattle.node_memory.specs.Words.{◌⊖◌, aligned}
use Rattle.process_queue.specs.Queue.{after_take, link_of}
use Rattle.process_queue.specs.declared.queue.Queue.{Queue}
use Rattle.link_channels.specs.declared.link.FourLinks.{FourLinks}
use Rattle.link_channels.specs.Links.{any_has_work}
use Rattle.link_channels.specs.Service.{serve_all, does_something}
use Rattle.link_channels.specs.Laws.{ServiceActsOnWork, ServiceLeavesTheRest}
use Rattle.t414_step.specs.declared.cpu.Cpu.{Cpu}
use Rattle.t414_step.specs.declared.stepping.Stepped.{Stepped}
use Rattle.t414_step.specs.declared.stepping.Stepped.TheVariants as code
use Rattle.t414_step.specs.Answers.{step_answer_of, is_idle, tells_idle}
use Rattle.t414_step.specs.ChannelRows.{CpuEffect}
use Rattle.t414_step.specs.Registers.{has_nothing_to_do}
use Rattle.t414_step.specs.Step.{StepEffect, stepped, resumed_at, resumed, resumption, processed, byte_done, step}
use Rattle.t414_step.proofs.Steps.{after_look}

and-false : (flag other_flag : Bool) → (flag && other_flag && false) ≡ false
and-false true true = refl
and-false true false = refl
and-false false other_flag = refl

and-true : (flag other_flag : Bool) → (flag && other_flag && true) ≡ (flag && other_flag)
and-true true true = refl
and-true true false = refl
and-true false other_flag = refl

no-byte : (effect : CpuEffect) → tells_idle (stepped effect) ≡ false
no-byte (Gave s ls m) = refl
no-byte (Halted fault ls m) = refl

looked-busy : (ls : FourLinks) (effect : Effect Bool Cpu) → tells_idle (after_look true ls effect) ≡ false
looked-busy ls (Gave true s m) = no-byte (byte_done s ls m)
looked-busy ls (Gave false s m) = refl
looked-busy ls (Halted fault s m) = refl

busy-if : (b : Bool) (effect other_effect : StepEffect) → tells_idle effect ≡ false → tells_idle other_effect ≡ false
    → tells_idle (if b then effect else other_effect) ≡ false
busy-if true effect other_effect same equal = same
busy-if false effect other_effect same equal = equal

idle-if : (flag : Bool) (effect other_effect : StepEffect) (other_flag : Bool) → tells_idle effect ≡ false
    → tells_idle other_effect ≡ other_flag
    → tells_idle (if flag then effect else other_effect) ≡ (not flag && other_flag)
idle-if true effect other_effect other_flag same equal = same
idle-if false effect other_effect other_flag same equal = equal

processed-busy : (s : Cpu) (ls : FourLinks) (m : List ℕ) → tells_idle (processed true s ls m) ≡ false
processed-busy s ls m =
    busy-if s.running (stepped (byte_done s ls m)) (after_look true ls (resumption s m))
    (no-byte (byte_done s ls m)) (looked-busy ls (resumption s m))

-- a step, by what came of the service of the links
abbrev after_service : Effect (Bool × Queue) FourLinks → Cpu → StepEffect
after_service effect s = do (x, ls, m) ← perform effect; processed x.0 (record s { queue = x.1 }) ls m

acted-on : (effect : Effect (Bool × Queue) FourLinks) (s : Cpu) → does_something effect ≡ true
    → tells_idle (after_service effect s) ≡ false
acted-on (Gave (true, q) ls m) s same = processed-busy (record s { queue = q }) ls m
acted-on (Gave (false, q) ls m) s same = cc
acted-on (Halted fault ls m) s same = refl

placed-busy : (outcome : Result ℕ Fault) (w : ℕ) (s : Cpu) (ls : FourLinks) (m : List ℕ)
    → tells_idle (after_look false ls (tried outcome s m (λ i. Gave true (resumed w i s) m))) ≡ false
placed-busy (Ok i) w s ls m = no-byte (byte_done (resumed w i s) ls m)
placed-busy (Err fault) w s ls m = refl

followed-busy : (outcome : Result ℕ Fault) (q : Queue) (s : Cpu) (ls : FourLinks) (m : List ℕ)
    → tells_idle (after_look false ls (do
      (w, q, m) ← beside s (tried outcome q m (λ next. Gave (Some q.front) (record { front = next; back = q.back }) m))
      resumed_at w (record s { queue = q }) m))
    ≡ false
followed-busy (Ok next) q s ls m =
    placed-busy (word_at m (aligned q.front ⊖ 4)) (aligned q.front)
    (record s { queue = record { front = next; back = q.back } }) ls m
followed-busy (Err fault) q s ls m = refl

taken-busy : (b : Bool) (s : Cpu) (ls : FourLinks) (m : List ℕ)
    → (s.queue.front == not_process) ≡ false → (s.queue.front == s.queue.back) ≡ b
    → tells_idle (after_look false ls (resumption s m)) ≡ false
unfolding after_take
taken-busy true s ls m same equal =
    rw (same, equal)
    (placed-busy (word_at m (aligned s.queue.front ⊖ 4)) (aligned s.queue.front)
    (record s { queue = record { front = not_process; back = s.queue.back } }) ls m)
taken-busy false s ls m same equal = rw (same, equal) (followed-busy (word_at m (link_of s.queue.front)) s.queue s ls m)

looked : (front : Bool) (s : Cpu) (ls : FourLinks) (m : List ℕ) → (s.queue.front == not_process) ≡ front
    → tells_idle (after_look false ls (resumption s m)) ≡ front
unfolding after_take
looked true s ls m same = rw same refl
looked false s ls m same = taken-busy (s.queue.front == s.queue.back) s ls m same refl

unserved : (s : Cpu) (ls : FourLinks) (m : List ℕ)
    → tells_idle (processed false s ls m) ≡ (not s.running && (s.queue.front == not_process))
unserved s ls m =
    idle-if s.running (stepped (byte_done s ls m)) (after_look false ls (resumption s m))
    (s.queue.front == not_process)
    (no-byte (byte_done s ls m)) (looked (s.queue.front == not_process) s ls m refl)

rests-by : ServiceActsOnWork
    → ServiceLeavesTheRest → (work : Bool) (s : Cpu) (ls : FourLinks) (m : List ℕ) → any_has_work ls ≡ work
    → tells_idle (step s ls m) ≡ has_nothing_to_do s ls
unfolding step
rests-by acts_on rests true s ls m same =
    let busy : tells_idle (after_service (serve_all ls s.queue m) s) ≡ false =
    acted-on (serve_all ls s.queue m) s (acts_on ls s.queue m ∙ same) in
    rw (busy, same) (sym (and-false (not s.running) (s.queue.front == not_process)))
rests-by acts_on rests false s ls m same =
    rw (rests ls s.queue m same, unserved s ls m, same) (sym (and-true (not s.running) (s.queue.front == not_process)))

-- a step says that it is idle exactly if there is nothing to do
pub tells_idle-step : ServiceActsOnWork → ServiceLeavesTheRest → (s : Cpu) (ls : FourLinks) (m : List ℕ)
    → tells_idle (step s ls m) ≡ has_nothing_to_do s ls
tells_idle-step acts_on rests s ls m = rests-by acts_on rests _ s ls m refl

tells_idle-answered : (other_stepped : Stepped) (s : Cpu) (ls : FourLinks) (m : List ℕ)
    → is_idle other_stepped ≡ tells_idle (step_answer_of other_stepped s ls m)
tells_idle-answered code.Ran s ls m = refl
tells_idle-answered code.Idle s ls m = refl
tells_idle-answered (code.Fault fault) s ls m = refl

-- so the code's answer tells whether there was
pub is_idle-step : ServiceActsOnWork
    → ServiceLeavesTheRest → (other_stepped : Stepped) (s t : Cpu) (ls ks : FourLinks) (m n : List ℕ)
    → step_answer_of other_stepped t ks n ≡ step s ls m
    → is_idle other_stepped ≡ has_nothing_to_do s ls
is_idle-step acts_on rests other_stepped s t ls ks m n same =
    tells_idle-answered other_stepped t ks n ∙ (ap tells_idle same ∙ tells_idle-step acts_on rests s ls m)

use Rattle.std.proofs.Common.{◌≡◌, ℕ, suc, ◌+◌, ◌-◌, ◌<◌, true, false, Option, Some}
use Rattle.std.proofs.Common.{refl, ◌∙◌, ap, sym, subst, arith, add-one}
use Rattle.node_memory.specs.Effect.{Gave, Halted}
use Rattle.t414_step.specs.Answers.{step_answer_of}
use Rattle.t414_step.specs.Steps.{nth_step}
use Rattle.t414_step.specs.declared.stepping.Stepped.{Stepped}
use Rattle.bootstrap.specs.Step.{is_quiet}
use Rattle.bootstrap.specs.Steps.{IsAfter, running, left_by}
use Rattle.bootstrap.specs.declared.node.Node.{Node}
use Rattle.bootstrap.proofs.Running.{steps-led, steps-broke, steps-rested, left-ran, some-idle, some-fault}
use Rattle.bootstrap.proofs.burst.run.Goals as goal

pub returns-in-Ran : goal.returns-in-Ran
returns-in-Ran c =
    let answer : nth_step c.run-steps.result.0 c.args.cpu.now c.args.links.now c.args.memory.now
    ≡ Some (Gave (true, c.run-steps.new.cpu) c.run-steps.new.links c.run-steps.new.memory) =
    c.run-steps.ensures.answer
    ∙ ap (λ (a : Stepped). Some (step_answer_of a c.run-steps.new.cpu c.run-steps.new.links c.run-steps.new.memory))
    c.in-Ran.is in
    let led =
    steps-led c.run-steps.result.0 c.args.cpu.now c.run-steps.new.cpu c.args.links.now c.run-steps.new.links
    c.args.memory.now c.run-steps.new.memory answer in
    let left : running c.run-steps.new.cpu c.run-steps.new.links c.run-steps.new.memory
    ≡ left_by c.last_ran.result c.run-steps.new.cpu c.run-steps.new.links c.run-steps.new.memory =
    left-ran c.run-steps.result.0 c.run-steps.new.cpu c.run-steps.new.links c.run-steps.new.memory
    ∙ ap (λ (last : Option Stepped). left_by last c.run-steps.new.cpu c.run-steps.new.links c.run-steps.new.memory)
    (sym c.last_ran.ensures) in
    let all : c.run-steps.result.0 ≡ c.args.n = c.run-steps.ensures.all c.in-Ran.is in
    record {
      burst = record {
        steps =
            subst (λ (y : Node). IsAfter (running c.args.cpu.now c.args.links.now c.args.memory.now)
            c.run-steps.result.0 y)
            left led.after;
        last = c.last_ran.ensures ∙ led.last;
        most = c.run-steps.ensures.most;
        ends = λ lt. absurd (omega arith);
      };
    }

pub returns-in-Idle : goal.returns-in-Idle
returns-in-Idle c =
    let some : 0 < c.run-steps.result.0 =
    some-idle c.run-steps.result.0 c.run-steps.result.1 c.in-Idle.is c.run-steps.ensures.some in
    let count : (c.run-steps.result.0 - 1) + 1 ≡ c.run-steps.result.0 = omega arith in
    let answer : nth_step (suc (c.run-steps.result.0 - 1)) c.args.cpu.now c.args.links.now c.args.memory.now
    ≡ Some (Gave (false, c.run-steps.new.cpu) c.run-steps.new.links c.run-steps.new.memory) =
    ap (λ (i : ℕ). nth_step i c.args.cpu.now c.args.links.now c.args.memory.now)
    (sym (add-one (c.run-steps.result.0 - 1)) ∙ count)
    ∙ c.run-steps.ensures.answer
    ∙ ap (λ (a : Stepped). Some (step_answer_of a c.run-steps.new.cpu c.run-steps.new.links
    c.run-steps.new.memory))
    c.in-Idle.is in
    let rested =
    steps-rested c.idle_where_it_rests.ensures.law c.services_act_on_work.ensures.rest
    (c.run-steps.result.0 - 1) c.args.cpu.now c.run-steps.new.cpu c.args.links.now c.run-steps.new.links
    c.args.memory.now c.run-steps.new.memory answer in
    let left : running c.run-steps.new.cpu c.run-steps.new.links c.run-steps.new.memory
    ≡ left_by c.last_ran-in-Idle.result c.run-steps.new.cpu c.run-steps.new.links c.run-steps.new.memory =
    left-ran (c.run-steps.result.0 - 1) c.run-steps.new.cpu c.run-steps.new.links c.run-steps.new.memory
    ∙ ap (λ (last : Option Stepped). left_by last c.run-steps.new.cpu c.run-steps.new.links c.run-steps.new.memory)
    (sym c.last_ran-in-Idle.ensures) in
    record {
      burst = record {
        steps =
            subst (λ (y : Node). IsAfter (running c.args.cpu.now c.args.links.now c.args.memory.now)
            (c.run-steps.result.0 - 1) y)
            left rested.after;
        last = c.last_ran-in-Idle.ensures ∙ rested.last;
        most = omega arith;
        ends = λ lt. subst (λ (y : Node). is_quiet y ≡ true) left rested.quiet;
      };
    }

pub returns-in-Fault : goal.returns-in-Fault
returns-in-Fault c =
    let some : 0 < c.run-steps.result.0 =
    some-fault c.run-steps.result.0 c.in-Fault.fault c.run-steps.result.1 c.in-Fault.is c.run-steps.ensures.some in
    let answer : nth_step c.run-steps.result.0 c.args.cpu.now c.args.links.now c.args.memory.now
    ≡ Some (Halted c.in-Fault.fault c.run-steps.new.links c.run-steps.new.memory) =
    c.run-steps.ensures.answer
    ∙ ap (λ (a : Stepped). Some (step_answer_of a c.run-steps.new.cpu c.run-steps.new.links c.run-steps.new.memory))
    c.in-Fault.is in
    let broke =
    steps-broke c.run-steps.result.0 c.in-Fault.fault c.args.cpu.now c.run-steps.new.cpu c.args.links.now
    c.run-steps.new.links c.args.memory.now c.run-steps.new.memory some answer in
    record {
      burst = record { steps = broke.0; last = broke.1; most = c.run-steps.ensures.most; ends = λ lt. refl };
    }

use Rattle.std.proofs.Common.{◌≡◌, Some, Ok, Result, Bool, true, false, ◌∙◌, ap, sym}
use Rattle.node_memory.specs.declared.fault.Fault.{Fault}
use Rattle.node_memory.specs.Effect.{Gave, Halted}
use Rattle.t414_step.specs.ChannelRows.{CpuEffect}
use Rattle.t414_step.specs.Step.{stepped, resumption}
use Rattle.t414_step.specs.Steps.{nth_step}
use Rattle.t414_step.specs.declared.cpu.Cpu.{Cpu}
use Rattle.t414_step.proofs.Steps.{one-step, same-first, looking-step, resumed-step, took-as}
use Rattle.t414_step.proofs.cpu.Cpu.run_on.Goals.{then-not-self+in-Ok-true, else-not-self}
use Rattle.t414_step.proofs.cpu.Cpu.run_on.Goals as goal

pub returns-then-has_work-clause-answer : goal.returns-then-has_work-clause-answer
returns-then-has_work-clause-answer c =
    one-step c.args.self.now c.args.links.now c.args.memory.now _ (sym c.advance_apart.ensures.answer)

pub returns-in-Ok-false-clause-answer : goal.returns-in-Ok-false-clause-answer
returns-in-Ok-false-clause-answer c =
    one-step c.args.self.now c.args.links.now c.args.memory.now
    (Gave (false, c.resume.new.self) c.args.links.now c.args.memory.now)
    (looking-step c.services_act_on_work.ensures.rest c.args.self.now c.args.links.now c.args.memory.now
    (Gave false c.resume.new.self c.args.memory.now) (sym c.if-has_work.ensures.answer) c.if-not-self.true
    (took-as c.in-Ok-false.field-0 false c.resume.new.self c.args.memory.now
    (resumption c.args.self.now c.args.memory.now) c.in-Ok-false.field-0-test c.in-Ok-false.ensures.answer))

pub returns-in-Err-clause-answer : goal.returns-in-Err-clause-answer
returns-in-Err-clause-answer c =
    one-step c.args.self.now c.args.links.now c.args.memory.now
    (Halted c.in-Err.fault c.args.links.now c.args.memory.now)
    (looking-step c.services_act_on_work.ensures.rest c.args.self.now c.args.links.now c.args.memory.now
    (Halted c.in-Err.fault c.resume.new.self c.args.memory.now) (sym c.if-has_work.ensures.answer) c.if-not-self.true
    c.in-Err.ensures.answer)

pub returns-in-Ok-clause-answer : goal.returns-in-Ok-clause-answer
returns-in-Ok-clause-answer c =
    let first : nth_step c.run_bytes-done.result.0 c.args.self.now c.args.links.now c.args.memory.now
    ≡ nth_step c.run_bytes-done.result.0 c.if-not-self.self c.args.links.now c.args.memory.now =
    elim c.if-not-self.branch [
      | then-not-self+in-Ok-true w ↦
          same-first c.run_bytes-done.result.0 c.args.self.now w.resume.new.self c.args.links.now c.args.memory.now
          (resumed-step c.services_act_on_work.ensures.rest c.args.self.now w.resume.new.self c.args.links.now
          c.args.memory.now (sym c.if-has_work.ensures.answer) w.if-not-self.true
          (took-as w.in-Ok-true.field-0 true w.resume.new.self c.args.memory.now
          (resumption c.args.self.now c.args.memory.now) w.in-Ok-true.field-0-test w.in-Ok-true.ensures.answer)
          (w.in-Ok-true.ensures.runs
          (ap (λ (b : Bool). let answer : Result Bool Fault = Ok b in answer) w.in-Ok-true.field-0-test)))
          c.run_bytes-done.ensures.some
          ∙ sym (ap (λ (s : Cpu). nth_step c.run_bytes-done.result.0 s c.args.links.now c.args.memory.now)
          w.self-is)
      | else-not-self w ↦
          sym (ap (λ (s : Cpu). nth_step c.run_bytes-done.result.0 s c.args.links.now c.args.memory.now) w.self-is)
    ] in
    first ∙ c.run_bytes-done.ensures.answer ∙ ap (λ (e : CpuEffect). Some (stepped e)) (sym c.in-Ok.ensures.answer)

pub returns-in-Err-complete-clause-answer : goal.returns-in-Err-complete-clause-answer
returns-in-Err-complete-clause-answer c =
    let first : nth_step c.run_bytes-done.result.0 c.args.self.now c.args.links.now c.args.memory.now
    ≡ nth_step c.run_bytes-done.result.0 c.if-not-self.self c.args.links.now c.args.memory.now =
    elim c.if-not-self.branch [
      | then-not-self+in-Ok-true w ↦
          same-first c.run_bytes-done.result.0 c.args.self.now w.resume.new.self c.args.links.now c.args.memory.now
          (resumed-step c.services_act_on_work.ensures.rest c.args.self.now w.resume.new.self c.args.links.now
          c.args.memory.now (sym c.if-has_work.ensures.answer) w.if-not-self.true
          (took-as w.in-Ok-true.field-0 true w.resume.new.self c.args.memory.now
          (resumption c.args.self.now c.args.memory.now) w.in-Ok-true.field-0-test w.in-Ok-true.ensures.answer)
          (w.in-Ok-true.ensures.runs
          (ap (λ (b : Bool). let answer : Result Bool Fault = Ok b in answer) w.in-Ok-true.field-0-test)))
          c.run_bytes-done.ensures.some
          ∙ sym (ap (λ (s : Cpu). nth_step c.run_bytes-done.result.0 s c.args.links.now c.args.memory.now)
          w.self-is)
      | else-not-self w ↦
          sym (ap (λ (s : Cpu). nth_step c.run_bytes-done.result.0 s c.args.links.now c.args.memory.now) w.self-is)
    ] in
    first ∙ c.run_bytes-done.ensures.answer
    ∙ ap (λ (e : CpuEffect). Some (stepped e)) (sym c.in-Err-complete.ensures.answer)

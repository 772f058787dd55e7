use Rattle.std.proofs.Common.{◌≡◌, ℕ, ◌+◌, ◌-◌, min, true, Some, ◌∙◌, ap, sym, arith}
use Rattle.node_memory.specs.Effect.{Gave}
use Rattle.t414_step.specs.Next.{completed}
use Rattle.t414_step.specs.Step.{stepped}
use Rattle.t414_step.specs.Steps.{nth_step}
use Rattle.t414_step.specs.declared.cpu.Cpu.{Cpu}
use Rattle.t414_step.proofs.Steps.{steps-zero, byte-more, unsliced, recounted}
use Rattle.t414_step.proofs.cpu.Cpu.run_bytes.Goals as goal

pub loop-left-init : goal.loop-left-init
loop-left-init c =
    let none : c.args.most - c.args.most ≡ 0 = omega arith in
    record {
      ran =
          ap (λ (k : ℕ). nth_step k c.args.self.now c.args.links.now c.args.memory.now) none
          ∙ steps-zero c.args.self.now c.args.links.now c.args.memory.now;
      running = c.requires.running;
      counted = omega arith;
      few = λ lt. absurd (omega arith);
      within = omega arith;
    }

pub loop-left-preserved-in-Byte-1 : goal.loop-left-preserved-in-Byte-1
loop-left-preserved-in-Byte-1 c =
    let new : c.do_byte.new.self.bytes ≡ min (c.loop-left.self.bytes + 1) 1024 = c.do_byte.ensures.counted in
    let old : min c.loop-left.self.bytes 1024 ≡ min (c.args.self.now.bytes + (c.args.most - c.loop-left.left)) 1024 =
    c.loop-left.invariant.counted in
    let more : c.args.most - (c.loop-left.left - 1) ≡ c.args.most - c.loop-left.left + 1 = omega arith in
    record {
      ran =
          ap (λ (k : ℕ). nth_step k c.args.self.now c.args.links.now c.args.memory.now) more
          ∙ byte-more c.services_act_on_work.ensures.rest (c.args.most - c.loop-left.left) c.args.self.now
          c.loop-left.self c.args.links.now c.args.memory.now c.loop-left.memory
          (Gave c.do_byte.new.self c.args.links.now c.do_byte.new.memory)
          c.requires.rest c.loop-left.invariant.ran c.loop-left.invariant.running
          (c.in-Byte.ensures.answer c.args.links.now);
      running = c.do_byte.ensures.running ∙ c.loop-left.invariant.running;
      counted = omega arith;
      few = λ lt. omega arith;
      within = omega arith;
    }

pub loop-left-preserved : goal.loop-left-preserved
loop-left-preserved c =
    let new : c.do_byte.new.self.bytes ≡ min (c.loop-left.self.bytes + 1) 1024 = c.do_byte.ensures.counted in
    let old : min c.loop-left.self.bytes 1024 ≡ min (c.args.self.now.bytes + (c.args.most - c.loop-left.left)) 1024 =
    c.loop-left.invariant.counted in
    let more : c.args.most - (c.loop-left.left - 1) ≡ c.args.most - c.loop-left.left + 1 = omega arith in
    record {
      ran =
          ap (λ (k : ℕ). nth_step k c.args.self.now c.args.links.now c.args.memory.now) more
          ∙ byte-more c.services_act_on_work.ensures.rest (c.args.most - c.loop-left.left) c.args.self.now
          c.loop-left.self c.args.links.now c.args.memory.now c.loop-left.memory
          (Gave c.do_byte.new.self c.args.links.now c.do_byte.new.memory)
          c.requires.rest c.loop-left.invariant.ran c.loop-left.invariant.running
          (sym (unsliced c.do_byte.new.self c.args.links.now c.do_byte.new.memory (omega arith))
          ∙ c.in-Jumped.ensures.answer c.args.links.now);
      running = c.do_byte.ensures.running ∙ c.loop-left.invariant.running;
      counted = omega arith;
      few = λ lt. omega arith;
      within = omega arith;
    }

pub returns-in_default-clause-answer : goal.returns-in_default-clause-answer
returns-in_default-clause-answer c =
    let new : c.do_byte.new.self.bytes ≡ min (c.loop-left.self.bytes + 1) 1024 = c.do_byte.ensures.counted in
    let old : min c.loop-left.self.bytes 1024 ≡ min (c.args.self.now.bytes + (c.args.most - c.loop-left.left)) 1024 =
    c.loop-left.invariant.counted in
    let same : c.do_byte.new.self.bytes ≡ c.count_bytes-self.result = omega arith in
    let more : c.args.most - (c.loop-left.left - 1) ≡ c.args.most - c.loop-left.left + 1 = omega arith in
    ap (λ (k : ℕ). nth_step k c.args.self.now c.args.links.now c.args.memory.now) more
    ∙ byte-more c.services_act_on_work.ensures.rest (c.args.most - c.loop-left.left) c.args.self.now c.loop-left.self
    c.args.links.now c.args.memory.now c.loop-left.memory
    (completed c.do_byte.result c.do_byte.new.self c.args.links.now c.do_byte.new.memory) c.requires.rest
    c.loop-left.invariant.ran c.loop-left.invariant.running (c.do_byte.ensures.answer c.args.links.now)
    ∙ ap (λ (s : Cpu). Some (stepped (completed c.do_byte.result s c.args.links.now c.do_byte.new.memory)))
    (recounted c.do_byte.new.self c.count_bytes-self.result same)

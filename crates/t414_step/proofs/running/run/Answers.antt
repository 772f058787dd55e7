use Rattle.std.proofs.Common.{◌≡◌, Some, ◌∙◌, ap, arith}
use Rattle.t414_step.specs.Answers.{step_answer_of}
use Rattle.t414_step.specs.declared.stepping.Stepped.{Stepped}
use Rattle.t414_step.specs.declared.stepping.Stepped.TheVariants as code
use Rattle.t414_step.proofs.Steps.{steps-zero, steps-add}
use Rattle.t414_step.proofs.running.run.Goals.{in-Ran, in_default}
use Rattle.t414_step.proofs.running.run.Goals as goal

pub loop-turn-init : goal.loop-turn-init
loop-turn-init c = record {
  ran = steps-zero c.args.cpu.now c.args.links.now c.args.memory.now;
  turns = omega arith;
  most = omega arith;
  left = λ lt. lt;
}

pub returns-then-not-matches-clause-answer : goal.returns-then-not-matches-clause-answer
returns-then-not-matches-clause-answer c =
    steps-add c.loop-turn.done c.run_on-more.result.0 c.args.cpu.now c.loop-turn.local c.args.links.now
    c.loop-turn.links c.args.memory.now c.loop-turn.memory c.loop-turn.invariant.ran
    ∙ c.run_on-more.ensures.answer

pub loop-turn-preserved : goal.loop-turn-preserved
loop-turn-preserved c =
    let ran : c.run_on-more.result.1 ≡ code.Ran =
    elim c.match-matches.branch [
      | in-Ran w ↦ w.in-Ran.is
      | in_default w ↦ let is = w.matches-is in let test = c.if-not-matches.false in cc
    ] in
    record {
      ran =
          steps-add c.loop-turn.done c.run_on-more.result.0 c.args.cpu.now c.loop-turn.local c.args.links.now
          c.loop-turn.links c.args.memory.now c.loop-turn.memory c.loop-turn.invariant.ran
          ∙ c.run_on-more.ensures.answer
          ∙ ap (λ (a : Stepped). Some (step_answer_of a c.run_on-more.new.self
          c.run_on-more.new.links c.run_on-more.new.memory))
          ran;
      turns = omega arith;
      most = omega arith;
      left = λ lt. omega arith;
    }

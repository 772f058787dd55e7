use Rattle.std.proofs.Common.{◌≡◌, ◌-◌, ap, sym, subst, arith}
use Rattle.bootstrap.specs.Steps.{IsBurst, running, left_by}
use Rattle.bootstrap.specs.declared.node.Node.{Node}
use Rattle.bootstrap.specs.declared.state.NodeState.{NodeState}
use Rattle.bootstrap.proofs.Counting.{no-steps, last_answer-zero}
use Rattle.bootstrap.proofs.Running.{steps-more, found-running, burst-after-none, burst-after-some}
use Rattle.bootstrap.proofs.node.Node.burst.Goals as goal

pub loop-steps-init : goal.loop-steps-init
loop-steps-init c = record { after = no-steps c.args.self.now; last = sym (last_answer-zero c.args.self.now) }

pub loop-steps-preserved : goal.loop-steps-preserved
loop-steps-preserved c =
    let more =
    steps-more c.args.self.now c.loop-steps.self c.step.new.self c.loop-steps.steps c.quiet.result c.step.result
    c.loop-steps.invariant.after c.quiet.ensures.answer c.if-quiet.false c.step.ensures.answer in
    record { after = more.0; last = more.1 }

pub returns-then-ran-eq0 : goal.returns-then-ran-eq0
returns-then-ran-eq0 c =
    let z : Node =
    record { memory = c.run-ran.new.memory; links = c.run-ran.new.links; state = c.state_after-state.result } in
    let left : left_by c.run-ran.result.last c.run-ran.new.cpu c.run-ran.new.links c.run-ran.new.memory ≡ z =
    ap (λ (st : NodeState).
    let n : Node = record { memory = c.run-ran.new.memory; links = c.run-ran.new.links; state = st } in n)
    (sym c.state_after-state.ensures.answer) in
    let more : IsBurst (c.args.n - c.loop-steps.steps)
    (running c.in-Runs.cpu c.loop-steps.self.links c.loop-steps.self.memory) c.run-ran.result z =
    subst (λ (n : Node). IsBurst (c.args.n - c.loop-steps.steps)
    (running c.in-Runs.cpu c.loop-steps.self.links c.loop-steps.self.memory) c.run-ran.result n)
    left c.run-ran.ensures.burst in
    record {
      burst =
          burst-after-none c.args.n c.loop-steps.steps c.args.self.now
          (running c.in-Runs.cpu c.loop-steps.self.links c.loop-steps.self.memory) z c.run-ran.result
          c.loop-steps.last (omega arith)
          (found-running c.args.self.now c.loop-steps.self c.loop-steps.steps c.in-Runs.cpu
          c.loop-steps.invariant.after c.in-Runs.is)
          more c.loop-steps.invariant.last c.if-ran-eq0.true;
    }

pub returns-else-ran-eq0 : goal.returns-else-ran-eq0
returns-else-ran-eq0 c =
    let z : Node =
    record { memory = c.run-ran.new.memory; links = c.run-ran.new.links; state = c.state_after-state.result } in
    let left : left_by c.run-ran.result.last c.run-ran.new.cpu c.run-ran.new.links c.run-ran.new.memory ≡ z =
    ap (λ (st : NodeState).
    let n : Node = record { memory = c.run-ran.new.memory; links = c.run-ran.new.links; state = st } in n)
    (sym c.state_after-state.ensures.answer) in
    let more : IsBurst (c.args.n - c.loop-steps.steps)
    (running c.in-Runs.cpu c.loop-steps.self.links c.loop-steps.self.memory) c.run-ran.result z =
    subst (λ (n : Node). IsBurst (c.args.n - c.loop-steps.steps)
    (running c.in-Runs.cpu c.loop-steps.self.links c.loop-steps.self.memory) c.run-ran.result n)
    left c.run-ran.ensures.burst in
    record {
      burst =
          burst-after-some c.args.n c.loop-steps.steps c.args.self.now
          (running c.in-Runs.cpu c.loop-steps.self.links c.loop-steps.self.memory) z c.run-ran.result (omega arith)
          (found-running c.args.self.now c.loop-steps.self c.loop-steps.steps c.in-Runs.cpu
          c.loop-steps.invariant.after c.in-Runs.is)
          more (omega arith);
    }

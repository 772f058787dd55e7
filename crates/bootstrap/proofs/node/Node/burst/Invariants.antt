use Rattle.std.proofs.Common.{◌≡◌}
use Rattle.bootstrap.specs.Steps.{IsAfter, last_answer}
use Rattle.bootstrap.proofs.node.Node.burst.Given as goal

abbrev pub invariant-loop-steps : goal.invariant-loop-steps
invariant-loop-steps l = record {
  after : IsAfter l.fn.self l.steps l.self;
  last : l.last ≡ last_answer l.steps l.fn.self;
}

use Rattle.std.proofs.Common.{arith, ap}
use Rattle.token_queue.specs.Rules.{known_of}
use Rattle.token_queue.proofs.Turns.{forks_aside, merges, put_together}
use Rattle.token_queue.proofs.queue.set_aside.Goals as goal

pub another-pass-requires-clause-rule : goal.another-pass-requires-clause-rule
another-pass-requires-clause-rule c = forks_aside _ _ c.requires.parts

pub absorb-requires-clause-rule : goal.absorb-requires-clause-rule
absorb-requires-clause-rule c =
    let one = ap (λ v. v.parts) c.another-pass.ensures.rule.1 in merges _ _ _ _ (omega arith)

pub returns-clause-known : goal.returns-clause-known
returns-clause-known c =
    put_together (known_of c.args.whole) (known_of c.another-pass.new.pass) (known_of c.another-pass.result)
    (known_of c.absorb.new.pass) c.requires.parts c.another-pass.ensures.rule.0
    c.another-pass.ensures.rule.1 c.absorb.ensures.rule

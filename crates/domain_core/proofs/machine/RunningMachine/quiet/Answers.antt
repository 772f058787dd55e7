use Rattle.std.proofs.Common.{refl, sym, ◌∙◌}
use Rattle.std.proofs.lemmas.Bool.{false≢true}
use Rattle.domain_core.proofs.Acts.{all_quiet, nodes_quiet}
use Rattle.domain_core.proofs.machine.RunningMachine.quiet.Goals as goal

pub returns-then-are_quiet-clause-quiet : goal.returns-then-are_quiet-clause-quiet
returns-then-are_quiet-clause-quiet g c = (
  λ yes. all_quiet _ c.args.self.now c.self.view_is c.self.invariant.0 (c.are_quiet.ensures.0 c.if-are_quiet.true)
      (c.ports_are_quiet.ensures.quiet.0 yes),
  λ quiet. c.ports_are_quiet.ensures.quiet.1 quiet.ports,
)

pub returns-then-are_quiet-clause-unchanged : goal.returns-then-are_quiet-clause-unchanged
returns-then-are_quiet-clause-unchanged g c = c.ports_are_quiet.ensures.unchanged

pub returns-else-are_quiet-clause-quiet : goal.returns-else-are_quiet-clause-quiet
returns-else-are_quiet-clause-quiet g c = (
  λ yes. absurd (false≢true (sym c.if-are_quiet.false ∙ yes)),
  λ quiet. c.are_quiet.ensures.1 (nodes_quiet _ c.args.self.now c.self.view_is c.self.invariant.0 quiet),
)

pub returns-else-are_quiet-clause-unchanged : goal.returns-else-are_quiet-clause-unchanged
returns-else-are_quiet-clause-unchanged g c = refl

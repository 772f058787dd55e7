use Rattle.line_answers.proofs.Exchange.{IsCollecting}
use Rattle.line_answers.proofs.asking.read_all.Given as goal

abbrev pub invariant-loop : goal.invariant-loop
invariant-loop g l =
    (goal.iterator-loop g).can_next l.iterator' × (goal.iterator-loop g).is_finite l.iterator'
    × IsCollecting l.host l.fn.session l.session

use Rattle.line_answers.proofs.Exchange.{IsReading}
use Rattle.line_answers.proofs.asking.read_up_to.Given as goal

abbrev pub invariant-loop-index : goal.invariant-loop-index
invariant-loop-index g l = IsReading l.host l.count l.fn.session l.session l._index

use Rattle.line_answers.proofs.Exchange.{IsWriting}
use Rattle.line_answers.proofs.asking.write_all.Given as goal

abbrev pub invariant-loop-byte : goal.invariant-loop-byte
invariant-loop-byte g l = IsWriting l.host l.bytes l.fn.session l.session l.byte-index

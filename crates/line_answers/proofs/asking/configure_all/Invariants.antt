use Rattle.line_answers.proofs.Exchange.{IsConfiguring}
use Rattle.line_answers.proofs.asking.configure_all.Given as goal

abbrev pub invariant-loop-byte : goal.invariant-loop-byte
invariant-loop-byte g l = IsConfiguring l.bytes l.fn.session l.session l.byte-index

use Rattle.std.proofs.Common.{◌≡◌, ◌++◌}
use Rattle.occam_code.specs.Code.{channels_code}
use Rattle.occam_code.proofs.statements.emit_channels.Given as goal

abbrev pub invariant-loop-k : goal.invariant-loop-k
invariant-loop-k l = l.code.items ≡ l.fn.code.items ++ channels_code l.base l.first l.k

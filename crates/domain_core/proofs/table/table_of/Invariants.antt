use Rattle.std.proofs.Common.{◌≡◌, length}
use Rattle.domain_core.proofs.Joined.{AreJoinedBelow}
use Rattle.domain_core.proofs.table.table_of.Given as goal

abbrev pub invariant-loop-port : goal.invariant-loop-port
invariant-loop-port l = (length l.table ≡ 32) × AreJoinedBelow l.part l.port l.table

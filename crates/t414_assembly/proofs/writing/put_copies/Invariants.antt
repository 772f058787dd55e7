use Rattle.std.proofs.Common.{◌≡◌, ◌++◌, replicate}
use Rattle.t414_assembly.proofs.writing.put_copies.Given as goal

abbrev pub invariant-loop : goal.invariant-loop
invariant-loop l = l.bytes.items ≡ l.fn.bytes.items ++ replicate l.counter l.byte

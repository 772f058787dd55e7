use Rattle.std.proofs.Common.{◌≡◌, ◌++◌, length, flat_map}
use Rattle.t414_assembly.specs.Usual.{usual}
use Rattle.t414_assembly.proofs.disassembly.disassemble.Given as goal

abbrev pub invariant-loop-rest : goal.invariant-loop-rest
invariant-loop-rest l = flat_map (λ i. usual i.function i.operand) l.found.items ++ l.rest ≡ l.fn.bytes

abbrev pub decreases-loop-rest : goal.decreases-loop-rest
decreases-loop-rest l = length l.rest

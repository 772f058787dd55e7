use Rattle.std.proofs.Common.{◌≡◌, ◌≤◌, ◌++◌, drop, length, map, vec_len}
use Rattle.t414_assembly.specs.Faults.{wrong_lines}
use Rattle.t414_assembly.proofs.faults.first_faults.Given as goal

-- the faults are of the wrong lines so far
abbrev pub invariant-loop-index : goal.invariant-loop-index
invariant-loop-index l = record {
  found : wrong_lines l.mismatches l.source
      ≡ map (λ fault. fault.line) l.faults.items ++ wrong_lines (drop l.index l.mismatches) (drop l.index l.source);
  most : length l.faults.items ≤ 20;
  len : vec_len l.faults ≡ length l.faults.items;
}

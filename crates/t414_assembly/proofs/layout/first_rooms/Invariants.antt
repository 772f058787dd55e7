use Rattle.std.proofs.Common.{◌≡◌, replicate}
use Rattle.t414_assembly.proofs.layout.first_rooms.Given as goal

abbrev pub invariant-loop : goal.invariant-loop
invariant-loop l = l.rooms.items ≡ replicate l.index 1

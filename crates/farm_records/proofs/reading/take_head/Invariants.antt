use Rattle.std.specs.Prelude.{◌≤◌, length, take}
use Rattle.std.specs.Io.KnownBytes.{Consumes}
use Rattle.farm_records.proofs.reading.take_head.Given as goal

-- what was taken is the beginning of the head
abbrev pub invariant-loop : goal.invariant-loop
invariant-loop g l =
    (l.taken ≤ length l.head)
    × Consumes (g.I.Read.remaining l.initial.input) (g.I.Read.remaining l.input) (take l.taken l.head)

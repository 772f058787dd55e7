use Rattle.std.proofs.Common.{◌≡◌, take}
use Rattle.crossbar.specs.Ranges.{ranged_ports}
use Rattle.crossbar.proofs.numbering.Numbering.of.Given as goal

abbrev pub invariant-loop-place : goal.invariant-loop-place
invariant-loop-place l = l.numbering ≡ ranged_ports (take l.place-index l.fn.ranges)

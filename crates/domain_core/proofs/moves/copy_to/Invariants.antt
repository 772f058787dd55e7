use Rattle.std.proofs.Common.{◌≡◌, length}
use Rattle.std.specs.List.{range_with_len}
use Rattle.domain_core.specs.Moves.{copies_arrived, joining_of}
use Rattle.domain_core.specs.Routes.{marked_by}
use Rattle.domain_core.proofs.moves.copy_to.Given as goal

abbrev pub invariant-loop-output : goal.invariant-loop-output
invariant-loop-output l =
    (l.devices
    ≡ copies_arrived (joining_of l.part) l.packet (marked_by l.outputs (range_with_len 0 l.output)) l.fn.devices)
    × (length l.devices.nodes ≡ length l.fn.devices.nodes)
    × (length l.devices.hosts ≡ length l.fn.devices.hosts)

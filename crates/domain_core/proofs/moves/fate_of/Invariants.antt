use Rattle.std.proofs.Common.{◌≡◌}
use Rattle.std.specs.List.{range_with_len}
use Rattle.virtual_switch.specs.SwitchValue.{private_of}
use Rattle.domain_core.specs.Moves.{outcome}
use Rattle.domain_core.specs.Routes.{marked_by, fate_answer}
use Rattle.domain_core.proofs.moves.fate_of.Given as goal

abbrev pub invariant-loop-output : goal.invariant-loop-output
invariant-loop-output g l =
    (l.switch ≡ l.fn.switch)
    × (fate_answer l.fate ≡ outcome (private_of l.fn.switch) (marked_by l.outputs (range_with_len 0 l.output)))

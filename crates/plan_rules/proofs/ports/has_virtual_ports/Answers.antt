use Rattle.std.proofs.Common.{pos, arith, rules, refl, w64, SFits, slice_index_or}
use Rattle.std.proofs.lemmas.Int.{to_z-of_z}
use Rattle.std.proofs.lemmas.List.{take_all}
use Rattle.std.proofs.lemmas.List.Elements.{All-more}
use Rattle.plan_rules.specs.Separate.{IsVirtualPort}
use Rattle.plan_rules.proofs.ports.has_virtual_ports.Goals as goal

pub loop-port-preserved : goal.loop-port-preserved
loop-port-preserved c =
    let fits : SFits w64 (slice_index_or c.args.ports.now c.loop-port.port-index (pos 0)) = search rules in
    All-more (IsVirtualPort c.args.ranges.now) c.args.ports.now c.loop-port.port-index (pos 0) (omega arith)
    c.loop-port.invariant
    (rw (to_z-of_z w64 _ fits) at (c.is_virtual_port.ensures.0 (search rules)))

pub returns : goal.returns
returns c =
    let whole = take_all c.loop-port.port-index c.args.ports.now (omega arith) in
    (λ _. rw whole at c.loop-port.invariant, λ _. refl)

use Rattle.std.proofs.Common.{◌<◌, ◌++◌, length, filter, get_or, pos, sym, ◌∙◌, arith, rules, w64, SFits}
use Rattle.std.proofs.lemmas.Int.{to_z-of_z}
use Rattle.plan_rules.specs.Separate.{is_wired}
use Rattle.plan_rules.proofs.ListLemmas.{kept_behind, left_out, at_end}
use Rattle.plan_rules.proofs.ports.push_wired.Goals as goal
use Rattle.plan_rules.proofs.ports.push_wired.Goals.{then-is_wired+in_ok-push, else-is_wired}

pub loop-link-preserved : goal.loop-link-preserved
loop-link-preserved c =
    let fits : SFits w64 (get_or c.args.node.now.links c.loop-link.link-index (pos 0)) = search rules in
    let within : c.loop-link.link-index < length c.args.node.now.links = omega arith in
    let test = rw (to_z-of_z w64 _ fits) at c.is_wired.ensures in
    elim c.if-is_wired.branch [
      | then-is_wired+in_ok-push w ↦
          rw (w.ports-is, w.in_ok-push.ensures.items, to_z-of_z w64 _ fits)
          (kept_behind is_wired c.args.ports.now.items c.args.node.now.links c.loop-link.link-index (pos 0) _
          within c.loop-link.invariant (sym test ∙ w.if-is_wired.true))
      | else-is_wired w ↦
          rw w.ports-is
          (left_out is_wired c.args.ports.now.items c.args.node.now.links c.loop-link.link-index (pos 0) _
          within c.loop-link.invariant (sym test ∙ w.if-is_wired.false))
    ]

pub returns : goal.returns
returns c =
    at_end (λ links. c.args.ports.now.items ++ filter is_wired links) c.args.node.now.links c.loop-link.link-index _
    (omega arith) c.loop-link.invariant

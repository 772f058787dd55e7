use Rattle.std.proofs.Common.{rules, ◌≡◌, ◌+◌}
use Rattle.script_text.specs.Lines.{IsLine}
use Rattle.script_text.proofs.OneMore.{one_more}
use Rattle.script_text.proofs.numbered.numbered_lines.Goals as goal

pub loop-rest-preserved : goal.loop-rest-preserved
loop-rest-preserved c =
    let lines = c.loop-rest.lines.items in (
      rw c.in_ok-push.ensures.items (search (rules, c.split_line.ensures.rest, c.loop-rest.invariant)),
      rw c.in_ok-push.ensures.items
          (one_more (λ k line. IsLine c.args.text.now k line.text.now) lines _ c.loop-rest.invariant.1
          (search (rules, c.loop-rest.invariant.0))),
      rw c.in_ok-push.ensures.items
          (one_more (λ k line. line.number ≡ k + 1) lines _ c.loop-rest.invariant.2 (search rules)),
    )

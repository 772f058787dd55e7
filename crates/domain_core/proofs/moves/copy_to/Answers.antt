use Rattle.std.proofs.Common.{◌≡◌, ◌+◌, ◌-◌, ◌∙◌, ap, sym, arith, ℕ, List}
use Rattle.std.specs.List.{range_with_len}
use Rattle.domain_core.specs.Moves.{copies_arrived, joining_of}
use Rattle.domain_core.specs.Routes.{marked_by}
use Rattle.domain_core.proofs.Outcomes.{copied_more}
use Rattle.domain_core.proofs.moves.copy_to.Goals as goal

pub loop-output-preserved : goal.loop-output-preserved
loop-output-preserved c = (
  copied_more (joining_of c.args.part.now) c.args.packet c.args.outputs c.loop-output.output c.args.devices.now
      c.loop-output.devices c.copy_at.new.devices c.loop-output.invariant.0 c.copy_at.ensures.state,
  c.copy_at.ensures.nodes ∙ c.loop-output.invariant.1,
  c.copy_at.ensures.hosts ∙ c.loop-output.invariant.2,
)

pub returns-then-is_past : goal.returns-then-is_past
returns-then-is_past c =
    let count : ℕ = c.args.part.now.count in
    let done : ℕ = c.loop-output.output in
    let all : done + (count - done) ≡ count = omega (arith, c.loop-output-test.true) in
    c.loop-output.invariant.0
    ∙ ap (λ (qs : List ℕ). copies_arrived (joining_of c.args.part.now) c.args.packet qs c.args.devices.now)
    (sym (c.is_past.ensures c.if-is_past.true (count - done))
    ∙ ap (λ (n : ℕ). marked_by c.args.outputs (range_with_len 0 n)) all)

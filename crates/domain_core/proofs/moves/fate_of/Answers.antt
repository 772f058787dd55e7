use Rattle.std.proofs.Common.{◌≡◌, ◌+◌, ◌-◌, ◌∙◌, ap, sym, arith, ◌++◌, ◌∷◌, [], List, ℕ, length}
use Rattle.std.specs.List.{range_with_len}
use Rattle.virtual_switch.specs.SwitchValue.{SwitchValue, private_of}
use Rattle.domain_core.specs.Moves.{outcome}
use Rattle.domain_core.specs.Routes.{marked_by}
use Rattle.domain_core.proofs.Outcomes.{marked_more}
use Rattle.domain_core.proofs.moves.fate_of.Goals as goal

pub loop-output-preserved : goal.loop-output-preserved
loop-output-preserved g c =
    let before : List ℕ = marked_by c.args.outputs (range_with_len 0 c.loop-output.output) in
    let more : List ℕ = before ++ marked_by c.args.outputs (c.loop-output.output ∷ []) in (
      c.fate_with-fate.ensures.unchanged ∙ c.loop-output.invariant.0,
      c.fate_with-fate.ensures.answer before
          (c.loop-output.invariant.1
          ∙ ap (λ (s : SwitchValue). outcome (private_of s) before) (sym c.loop-output.invariant.0))
          ∙ ap (λ (s : SwitchValue). outcome (private_of s) more) c.loop-output.invariant.0
          ∙ ap (outcome (private_of c.args.switch.now)) (sym (marked_more c.args.outputs c.loop-output.output)),
    )

pub returns-then-is_past-clause-answer : goal.returns-then-is_past-clause-answer
returns-then-is_past-clause-answer g c =
    let count : ℕ = length c.args.switch.now.ports in
    let done : ℕ = c.loop-output.output in
    let all : done + (count - done) ≡ count = omega (arith, c.loop-output-test.true) in
    c.loop-output.invariant.1
    ∙ ap (outcome (private_of c.args.switch.now))
    (sym (c.is_past.ensures c.if-is_past.true (count - done))
    ∙ ap (λ (n : ℕ). marked_by c.args.outputs (range_with_len 0 n)) all)

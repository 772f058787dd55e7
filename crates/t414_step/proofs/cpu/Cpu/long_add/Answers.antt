use Rattle.std.proofs.Common.{◌≡◌, Bool, ℤ, ap, ◌∙◌, arith, pos, ◌+ℤ◌}
use Rattle.std.proofs.lemmas.Int.{ints, to_z-of_z}
use Rattle.std.specs.Int.{w32, w64, cast_signed, cast_unsigned}
use Rattle.node_memory.specs.Words.{◌⊕◌, signed, overflows}
use Rattle.t414_step.specs.Registers.{carry, unary_result}
use Rattle.t414_step.specs.Rows.{row, error_if}
use Rattle.t414_step.proofs.cpu.Cpu.long_add.Goals as goal

-- a number as the code keeps it, in 64 bits
abbrev kept : ℤ → ℤ
kept number = cast_signed w64 (cast_unsigned w64 number)

-- a number overflows as an equal one does
of_same : (told : Bool) (number other_number : ℤ) → told ≡ overflows number → number ≡ other_number
    → told ≡ overflows other_number
of_same told number other_number tells same = tells ∙ ap overflows same

pub returns : goal.returns
unfolding row
returns c = λ ls m.
    let s = c.args.self.now in
    let b : c.from.result ≡ signed s.b =
    c.from.ensures ∙ to_z-of_z w32 c.signed.result (omega (arith, ints)) ∙ c.signed.ensures in
    let a : c.from-2.result ≡ signed s.a =
    c.from-2.ensures ∙ to_z-of_z w32 c.signed-2.result (omega (arith, ints)) ∙ c.signed-2.ensures in
    let over : c.overflows.result ≡ overflows (signed s.b +ℤ signed s.a +ℤ pos (carry s)) =
    of_same c.overflows.result
    (kept (kept (kept c.from.result +ℤ kept c.from-2.result) +ℤ kept c.from-3.result))
    (signed s.b +ℤ signed s.a +ℤ pos (carry s)) c.overflows.ensures (omega (arith, ints)) in
    c.raise_if.ensures.answer ls m
    ∙ ap (λ t. error_if t (unary_result (s.b ⊕ s.a ⊕ carry s) s) ls m) over

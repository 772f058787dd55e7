use Rattle.std.proofs.Common.{◌≡◌, ℕ, List, Bool, true, false, ◌==◌, ◌&&◌, if◌then◌else◌, refl, ap, ◌∙◌, arith, int_rem}
use Rattle.std.proofs.lemmas.Bool.{and_parts, eqb-true, eq-eqb, ne_eqb}
use Rattle.std.proofs.lemmas.Int.{ints, to_z-of_z}
use Rattle.std.specs.Int.{w32, cast_unsigned}
use Rattle.node_memory.specs.Effect.{Gave}
use Rattle.node_memory.specs.Words.{signed}
use Rattle.link_channels.specs.declared.link.FourLinks.{FourLinks}
use Rattle.t414_decode.specs.declared.instruction.PlainOperation.TheVariants as op
use Rattle.t414_step.specs.ChannelRows.{CpuEffect}
use Rattle.t414_step.specs.Registers.{binary_result}
use Rattle.t414_step.specs.Rows.{row, error_if, divides_past}
use Rattle.t414_step.specs.declared.cpu.Cpu.{Cpu}
use Rattle.t414_step.proofs.cpu.Cpu.remainder.Goals as goal

-- the rest that is left by a division, as a word
abbrev rest_of : ℕ → ℕ → ℕ
rest_of word divisor = cast_unsigned w32 (int_rem (signed word) (signed divisor))

-- MinInt by -1 leaves no rest
no_rest : (word divisor : ℕ) → ((word == 0x80000000) && (divisor == 0xFFFFFFFF)) ≡ true → rest_of word divisor ≡ 0
no_rest word divisor past =
    let both = and_parts (word == 0x80000000) (divisor == 0xFFFFFFFF) past in
    let left = eqb-true word 0x80000000 both.0 in
    let right = eqb-true divisor 0xFFFFFFFF both.1 in
    λ i. rest_of (left i) (right i)

-- an effect is that of either case, if they are one where the test holds
either : (past : Bool) (effect other_effect : CpuEffect) → (past ≡ true → other_effect ≡ effect)
    → other_effect ≡ (if past then effect else other_effect)
either true effect other_effect same = same refl
either false effect other_effect same = refl

-- the row at a divisor that isn't 0
row_of_rest : (s : Cpu) (ls : FourLinks) (m : List ℕ) → (s.a ≡ 0 → ⊥)
    → Gave (binary_result (rest_of s.b s.a) s) ls m ≡ row op.Remainder s ls m
unfolding row
row_of_rest s ls m some =
    rw (ne_eqb s.a 0 some)
    (either (divides_past s) (Gave (binary_result 0 s) ls m) (Gave (binary_result (rest_of s.b s.a) s) ls m)
    (λ past. ap (λ (n : ℕ). Gave (binary_result n s) ls m) (no_rest s.b s.a past)))

-- the row at a divisor of 0
row_of_none : (s : Cpu) (ls : FourLinks) (m : List ℕ) → s.a ≡ 0
    → error_if true (binary_result 0 s) ls m ≡ row op.Remainder s ls m
unfolding row
row_of_none s ls m none = rw (eq-eqb s.a 0 none) refl

pub returns-then-self-eq0 : goal.returns-then-self-eq0
returns-then-self-eq0 c = λ ls m.
    c.raise_if.ensures.answer ls m ∙ ap (λ (s : Cpu). error_if true s ls m) c.binary.ensures.state
    ∙ row_of_none c.args.self.now ls m c.if-self-eq0.true

pub returns : goal.returns
returns c = λ ls m.
    let s = c.args.self.now in
    let b = to_z-of_z w32 c.signed.result (omega (arith, ints)) ∙ c.signed.ensures in
    let a = to_z-of_z w32 c.signed-2.result (omega (arith, ints)) ∙ c.signed-2.ensures in
    let rest : c.cast_unsigned.result ≡ rest_of s.b s.a =
    c.cast_unsigned.ensures ∙ ap (cast_unsigned w32) (to_z-of_z w32 c.wrapping_rem-rest.result
    (omega (arith, ints)) ∙ c.wrapping_rem-rest.ensures ∙ (λ i. int_rem (b i) (a i))) in
    ap (λ (x : Cpu). Gave x ls m) (c.binary-2.ensures.state ∙ ap (λ (n : ℕ). binary_result n s) rest)
    ∙ row_of_rest s ls m c.if-self-eq0.false

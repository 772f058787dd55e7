use Rattle.std.proofs.Common.{◌≡◌, ℕ, zero, suc, ℤ, pos, negsuc, ◌^◌, ◌<◌, List, true, false, ◌==◌, ◌||◌, refl, sym, ap}
use Rattle.std.proofs.Common.{◌∙◌, arith, SFits, int_div}
use Rattle.std.proofs.Math.Nat.{div-le_self, div-lt_self}
use Rattle.std.proofs.lemmas.Bool.{eq-eqb, ne_eqb, false≢true}
use Rattle.std.proofs.lemmas.Int.{ints, to_z-of_z, of_z-to_z}
use Rattle.std.specs.Int.{w32, cast_unsigned}
use Rattle.node_memory.specs.Effect.{Gave}
use Rattle.node_memory.specs.Words.{signed}
use Rattle.link_channels.specs.declared.link.FourLinks.{FourLinks}
use Rattle.t414_decode.specs.declared.instruction.PlainOperation.TheVariants as op
use Rattle.t414_step.specs.Registers.{binary_result}
use Rattle.t414_step.specs.Rows.{row, error_if, divides_past}
use Rattle.t414_step.specs.declared.cpu.Cpu.{Cpu}
use Rattle.t414_step.proofs.cpu.Cpu.divide.Goals.{then-self, else-self, then-self-eq0-via-then-self-eq0}
use Rattle.t414_step.proofs.cpu.Cpu.divide.Goals.{then-self-eq0-via-else-self-eq0+then-self-2}
use Rattle.t414_step.proofs.cpu.Cpu.divide.Goals as goal

-- the quotient of a division, as a word
abbrev quotient_of : ℕ → ℕ → ℕ
quotient_of word divisor = cast_unsigned w32 (int_div (signed word) (signed divisor))

-- MinInt by -1 has no quotient
past_of : (s : Cpu) → s.b ≡ 0x80000000 → s.a ≡ 0xFFFFFFFF → divides_past s ≡ true
past_of s left right = rw (eq-eqb s.b 0x80000000 left) (eq-eqb s.a 0xFFFFFFFF right)

-- the row at a divisor that isn't 0, if the quotient fits
row_of_quotient : (s : Cpu) (ls : FourLinks) (m : List ℕ) → (s.a ≡ 0 → ⊥) → divides_past s ≡ false
    → Gave (binary_result (quotient_of s.b s.a) s) ls m ≡ row op.Divide s ls m
unfolding row
row_of_quotient s ls m some fits = rw (ne_eqb s.a 0 some) (rw fits refl)

-- the row at a divisor of 0, or if the quotient doesn't fit
row_of_none : (s : Cpu) (ls : FourLinks) (m : List ℕ) → (s.a == 0 || divides_past s) ≡ true
    → error_if true (binary_result 0 s) ls m ≡ row op.Divide s ls m
unfolding row
row_of_none s ls m past = rw past refl

-- the word whose number that is
word_of : (word : ℕ) (number value : ℤ) → word < 2 ^ 32 → number ≡ signed word → number ≡ value
    → word ≡ cast_unsigned w32 value
word_of word number value below reads is =
    sym (of_z-to_z w32 word below) ∙ ap (cast_unsigned w32) (sym reads ∙ is)

-- the quotient of numbers that fit does so too, unless it is MinInt by -1
quotient_fits : (number divisor : ℤ) → SFits w32 number → (number ≡ negsuc 2147483647 → divisor ≡ negsuc 0 → ⊥)
    → SFits w32 (int_div number divisor)
quotient_fits (pos m) (pos n) small past = let less = div-le_self m n in omega (arith, ints)
quotient_fits (pos m) (negsuc n) small past = let less = div-le_self m (suc n) in omega (arith, ints)
quotient_fits (negsuc m) (pos n) small past = let less = div-le_self (suc m) n in omega (arith, ints)
quotient_fits (negsuc m) (negsuc zero) small past =
    let less = div-le_self (suc m) 1 in
    let other : m ≡ 2147483647 → ⊥ = λ least. past (ap negsuc least) refl in
    omega (arith, ints, other)
quotient_fits (negsuc m) (negsuc (suc n)) small past =
    let less = div-lt_self {n = suc m} {k = suc (suc n)} (omega arith) (omega arith) in omega (arith, ints)

pub returns : goal.returns
returns c = λ ls m.
    let s = c.args.self.now in
    let fits : divides_past s ≡ false = elim c.if-self.branch [
      | then-self w ↦ rw (eq-eqb s.b 0x80000000 w.if-self.true) (sym w.value-is ∙ c.if-self-2.false)
      | else-self w ↦ rw (ne_eqb s.b 0x80000000 w.if-self.false) refl
    ] in
    let b = to_z-of_z w32 c.signed.result (omega (arith, ints)) ∙ c.signed.ensures in
    let a = to_z-of_z w32 c.signed-2.result (omega (arith, ints)) ∙ c.signed-2.ensures in
    let read = quotient_of (cast_unsigned w32 c.signed.result) (cast_unsigned w32 c.signed-2.result) in
    let quotient : c.cast_unsigned.result ≡ quotient_of s.b s.a =
    c.cast_unsigned.ensures ∙ of_z-to_z w32 read (grind (arith, ints))
    ∙ (λ i. cast_unsigned w32 (int_div (b i) (a i))) in
    ap (λ (x : Cpu). Gave x ls m) (c.binary-2.ensures.state ∙ ap (λ (n : ℕ). binary_result n s) quotient)
    ∙ row_of_quotient s ls m c.if-self-eq0.false fits

pub returns-then-self-eq0 : goal.returns-then-self-eq0
returns-then-self-eq0 c = λ ls m.
    let s = c.args.self.now in
    let past : (s.a == 0 || divides_past s) ≡ true = elim c.then-self-eq0.branch [
      | then-self-eq0-via-then-self-eq0 w ↦ rw (eq-eqb s.a 0 w.if-self-eq0.true) refl
      | then-self-eq0-via-else-self-eq0+then-self-2 w ↦
          rw (ne_eqb s.a 0 w.if-self-eq0.false) (elim w.if-self.branch [
            | then-self v ↦ rw (eq-eqb s.b 0x80000000 v.if-self.true) (sym v.value-is ∙ w.if-self-2.true)
            | else-self v ↦
                let none = ne_eqb s.b 0x80000000 v.if-self.false in
                rw none (sym (v.value-is ∙ none) ∙ w.if-self-2.true)
          ])
    ] in
    c.raise_if.ensures.answer ls m ∙ ap (λ (x : Cpu). error_if true x ls m) c.binary.ensures.state
    ∙ row_of_none s ls m past

pub nonzero_div-quotient : goal.nonzero_div-quotient
nonzero_div-quotient c =
    let s = c.args.self.now in
    let fits : divides_past s ≡ false = elim c.if-self.branch [
      | then-self w ↦ rw (eq-eqb s.b 0x80000000 w.if-self.true) (sym w.value-is ∙ c.if-self-2.false)
      | else-self w ↦ rw (ne_eqb s.b 0x80000000 w.if-self.false) refl
    ] in
    let b = to_z-of_z w32 c.signed.result (omega (arith, ints)) in
    let a = to_z-of_z w32 c.signed-2.result (omega (arith, ints)) in
    let past : c.signed.result ≡ negsuc 2147483647 → c.signed-2.result ≡ negsuc 0 → ⊥ = λ least one.
    let left : s.b ≡ 0x80000000 =
    word_of s.b c.signed.result (negsuc 2147483647) (omega arith) c.signed.ensures least in
    let right : s.a ≡ 0xFFFFFFFF =
    word_of s.a c.signed-2.result (negsuc 0) (omega arith) c.signed-2.ensures one in
    false≢true (sym fits ∙ past_of s left right) in
    (grind (arith, ints), rw (a, b) (quotient_fits c.signed.result c.signed-2.result (omega (arith, ints)) past))

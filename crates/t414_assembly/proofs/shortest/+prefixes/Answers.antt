use Rattle.std.proofs.Common.{ℕ, inl, inr, ◌*◌, ◌+◌, ◌≡◌, ◌-◌, ◌%◌, ◌/◌, ◌^◌, ◌++◌, List, sym, ap, ◌∙◌, arith}
use Rattle.t414_decode.specs.Meaning.{read_from}
use Rattle.t414_assembly.specs.Spelled.{spelled, prefix_of}
use Rattle.t414_assembly.specs.Usual.{byte_with, nibble_of}
use Rattle.t414_assembly.proofs.Usual.{more_prefixes}
use Rattle.t414_assembly.proofs.Bytes.{one_more}
use Rattle.t414_assembly.proofs.shortest.+prefixes.Goals as goal
use Rattle.t414_assembly.proofs.shortest.+prefixes.Goals.{then-value-lt16, else-value-lt16}
use Rattle.t414_assembly.proofs.shortest.+prefixes.Goals.{then-negative, else-negative}

pub returns-clause-operand : goal.returns-clause-operand
returns-clause-operand t c = λ rest.
    let function : c.if-negative.function ≡ prefix_of c.args.negative =
    elim c.if-negative.branch [
      | then-negative w ↦ w.function-is ∙ ap prefix_of (sym w.if-negative.true)
      | else-negative w ↦ w.function-is ∙ ap prefix_of (sym w.if-negative.false)
    ] in
    let nibble : c.byte_of.result % 16 ≡ c.args.value % 16 = c.byte_of.ensures.nibble in
    let front : (r : List ℕ)
    → read_from 0 (spelled c.if-value-lt16.spelling ++ r) ≡ read_from (c.args.value - c.args.value % 16) r =
    elim c.if-value-lt16.branch [
      | then-value-lt16 w ↦ λ r.
          let zero : 0 ≡ c.args.value - c.args.value % 16 = omega (arith, w.if-value-lt16.true) in
          ap (λ s. read_from 0 (spelled s ++ r)) w.spelling-is
          ∙ ap (λ xs. read_from 0 (xs ++ r)) w.empty-spelling.ensures ∙ ap (λ o. read_from o r) zero
      | else-value-lt16 w ↦ λ r.
          let back : c.args.value / 2 ^ 4 * 2 ^ 4 % 2 ^ 32 ≡ c.args.value - c.args.value % 16 =
          omega (arith, c.requires) in
          ap (λ s. read_from 0 (spelled s ++ r)) w.spelling-is ∙ w.prefixes-spelling.ensures.operand r
          ∙ ap (λ o. read_from o r) back
    ] in
    ap (λ xs. read_from 0 (xs ++ rest)) c.push.ensures
    ∙ one_more c.args.value (c.args.value - c.args.value % 16) c.byte_of.result (spelled c.if-value-lt16.spelling) rest
    c.args.negative (omega arith) (omega arith) front
    (c.byte_of.ensures.function ∙ function) nibble

pub returns-clause-usual : goal.returns-clause-usual
returns-clause-usual t c = λ most small some.
    let function : c.if-negative.function ≡ prefix_of c.args.negative =
    elim c.if-negative.branch [
      | then-negative w ↦ w.function-is ∙ ap prefix_of (sym w.if-negative.true)
      | else-negative w ↦ w.function-is ∙ ap prefix_of (sym w.if-negative.false)
    ] in
    let byte : c.byte_of.result ≡ byte_with (prefix_of c.args.negative) c.args.value =
    c.byte_of.ensures.byte ∙ ap (λ f. nibble_of f * 16 + c.args.value % 16) function in
    c.push.ensures
    ∙ more_prefixes most c.args.value c.byte_of.result c.args.negative (spelled c.if-value-lt16.spelling) small some
    (elim c.if-value-lt16.branch [
      | then-value-lt16 w ↦ inl (w.if-value-lt16.true, ap spelled w.spelling-is ∙ w.empty-spelling.ensures)
      | else-value-lt16 w ↦
          inr (
            w.if-value-lt16.false,
            λ m less more. ap spelled w.spelling-is ∙ w.prefixes-spelling.ensures.usual m less more,
          )
    ])
    byte

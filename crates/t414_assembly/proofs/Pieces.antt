-- The bytes that are put for a statement are bytes of that statement: the clause `put` of `put_statement`.
use Rattle.std.proofs.Common.{ℕ, ◌≡◌, ◌<◌, ◌≤◌, ◌+◌, ◌-◌, ◌%◌, ◌++◌, List, length, true, false, replicate}
use Rattle.std.proofs.Common.{max, slice_index, refl, sym, ap, ◌∙◌, subst, arith, length-append}
use Rattle.std.proofs.lemmas.List.{length-replicate}
use Rattle.t414_decode.specs.declared.instruction.Function.{Function}
use Rattle.t414_assembly.specs.declared.statement.Operand.{Operand}
use Rattle.t414_assembly.specs.declared.statement.Operand.TheVariants.{Number, Label, Difference}
use Rattle.t414_assembly.specs.declared.statement.Statement.TheVariants.{Instruction, Align}
use Rattle.t414_decode.specs.Meaning.{continues}
use Rattle.t414_assembly.specs.Spelled.{Means, IsShortest, IsByteOf}
use Rattle.t414_assembly.specs.Program.{operand_of, address_of, IsInstruction, IsPiece}
use Rattle.t414_assembly.specs.Layout.{gap, IsTight}
use Rattle.t414_assembly.specs.Usual.{usual}
use Rattle.t414_assembly.proofs.Padding.{pad_means, no_pads}
use Rattle.t414_assembly.proofs.Gaps.{gap_lt, gap_reaches}

tight_prefix : (room : ℕ) (function : Function) (operand : Operand) → IsTight room (Instruction function operand)
    → continues function ≡ true → room ≡ 1
tight_prefix room function (Number n) tight on = tight.0 on
tight_prefix room function (Label p m) tight on = tight on
tight_prefix room function (Difference p q m) tight on = tight on

abbrev number_among : Operand → ℕ
number_among (Number n) = n
number_among _ = 0

not_padded : (room : ℕ) (short : List ℕ) → room ≤ length short → replicate (room - length short) 0x20 ++ short ≡ short
not_padded room short less =
    let none : room - length short ≡ 0 = omega (arith, less) in ap (λ n. replicate n 0x20 ++ short) none

number_short : (address : ℕ → ℕ) (next room : ℕ) (function : Function) (operand : Operand) (short : List ℕ)
    → (continues function ≡ false → Means short function (operand_of address next function operand))
    → (continues function ≡ false → IsShortest short function (operand_of address next function operand))
    → IsTight room (Instruction function operand)
    → (n : ℕ) → operand ≡ Number n → continues function ≡ false
    → IsShortest (replicate (room - length short) 0x20 ++ short) function n
number_short address next room function (Number m) short means shortest tight n is off =
    let same : m ≡ n = ap number_among is in
    let less : room ≤ length short = no_pads short room function m (means off) (λ others h. tight.1 others off h) in
    subst (λ k. IsShortest (replicate (room - length short) 0x20 ++ short) function k) same
    (subst (λ bytes. IsShortest bytes function m) (sym (not_padded room short less)) (shortest off))
number_short address next room function (Label p m) short means shortest tight n is off = cc
number_short address next room function (Difference p q m) short means shortest tight n is off = cc

prefix_byte : (room nibble : ℕ) (function : Function) (short : List ℕ) → room ≡ 1 → IsByteOf function nibble short
    → IsByteOf function nibble (replicate (room - length short) 0x20 ++ short)
prefix_byte room nibble function short one is =
    let count : length short ≡ 1 = ap length is.1 in
    let less : room ≤ length short = omega (arith, one, count) in
    (is.0, not_padded room short less ∙ is.1, is.2, is.3)

number_usual : (address : ℕ → ℕ) (next room : ℕ) (function : Function) (operand : Operand) (short : List ℕ)
    → (continues function ≡ false → Means short function (operand_of address next function operand))
    → (continues function ≡ true → IsByteOf function (operand_of address next function operand % 16) short)
    → short ≡ usual function (operand_of address next function operand) → IsTight room (Instruction function operand)
    → (n : ℕ) → operand ≡ Number n
    → replicate (room - length short) 0x20 ++ short ≡ usual function n
number_usual address next room function (Number m) short means prefix usual_is tight n is =
    let same : m ≡ n = ap number_among is in
    let less : room ≤ length short = (elim (continues function) as (λ g. continues function ≡ g → room ≤ length short) [
      | true ↦ λ on. (let count : length short ≡ 1 = ap length (prefix on).1 in omega (arith, tight.0 on, count))
      | false ↦ λ off. no_pads short room function m (means off) (λ others h. tight.1 others off h)
    ]) refl in
    not_padded room short less ∙ usual_is ∙ ap (usual function) same
number_usual address next room function (Label p m) short means prefix usual_is tight n is = cc
number_usual address next room function (Difference p q m) short means prefix usual_is tight n is = cc

-- the shortest bytes of an instruction, after as many pfix 0 as its room has left, are bytes of it
pub instruction_piece : (address : ℕ → ℕ) (next room : ℕ) (function : Function) (operand : Operand) (short : List ℕ)
    → (continues function ≡ false → Means short function (operand_of address next function operand))
    → (continues function ≡ false → IsShortest short function (operand_of address next function operand))
    → (continues function ≡ true → IsByteOf function (operand_of address next function operand % 16) short)
    → short ≡ usual function (operand_of address next function operand) → IsTight room (Instruction function operand)
    → IsInstruction address next function operand (replicate (room - length short) 0x20 ++ short)
instruction_piece address next room function operand short means shortest prefix usual_is tight = record {
  prefix =
      λ on. prefix_byte room (operand_of address next function operand % 16) function short
      (tight_prefix room function operand tight on) (prefix on);
  other =
      λ off. (
        room - length short,
        record {
          means = pad_means (room - length short) short function (operand_of address next function operand) (means off);
          short = short;
          whole = refl;
          shortest = shortest off;
        },
      );
  number = number_usual address next room function operand short means prefix usual_is tight;
  shortest = number_short address next room function operand short means shortest tight;
}

-- bytes after as many pfix 0 as a room has left fill the room
pub piece_length : (room : ℕ) (short : List ℕ) → length short ≤ room
    → length (replicate {A = ℕ} (room - length short) 0x20 ++ short) ≡ room
piece_length room short less =
    let pads : length (replicate {A = ℕ} (room - length short) 0x20) ≡ room - length short =
    length-replicate (room - length short) 0x20 in
    let sum : length (replicate {A = ℕ} (room - length short) 0x20) + length short ≡ room = omega (arith, pads, less) in
    length-append (replicate (room - length short) 0x20) short ∙ sum

-- zeros up to the next multiple of a size are the bytes of a statement that aligns to that size
pub align_piece : (origin : ℕ) (starts : List ℕ) (place size : ℕ)
    → slice_index starts (place + 1) ≡ slice_index starts place + gap (max size 1) (address_of origin starts place)
    → IsPiece (address_of origin starts) (place + 1) (Align size)
    (replicate (gap (max size 1) (address_of origin starts place)) 0)
align_piece origin starts place size next =
    let some : 0 < max size 1 = omega arith in
    let count : length (replicate {A = ℕ} (gap (max size 1) (address_of origin starts place)) 0)
    ≡ gap (max size 1) (address_of origin starts place) =
    length-replicate (gap (max size 1) (address_of origin starts place)) 0 in
    let there : address_of origin starts (place + 1)
    ≡ address_of origin starts place + gap (max size 1) (address_of origin starts place) =
    omega (arith, next) in (
      ap (λ n. replicate n 0) (sym count),
      subst (λ n. n < max size 1) (sym count) (gap_lt (max size 1) (address_of origin starts place) some),
      ap (λ a. a % max size 1) there ∙ gap_reaches (max size 1) (address_of origin starts place) some,
    )

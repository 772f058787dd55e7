-- How reading goes over one byte: the clause `operand` of `prefixes`, and the clause `means` of `spell`.
use Rattle.std.proofs.Common.{ℕ, ◌≡◌, ◌<◌, ◌+◌, ◌*◌, ◌/◌, ◌%◌, ◌^◌, ◌++◌, List, [], ◌∷◌, Some, Bool}
use Rattle.std.proofs.Common.{true, false, cond, refl, sym, ap, ◌∙◌, append_assoc, bit_or, arith}
use Rattle.std.proofs.lemmas.Nat.{or_shifted}
use Rattle.t414_decode.specs.Codes.{function_of, accumulated, shifted}
use Rattle.t414_decode.specs.declared.instruction.Function.{Function}
use Rattle.t414_decode.specs.declared.instruction.Function.TheVariants.{Prefix, NegativePrefix}
use Rattle.t414_decode.specs.Meaning.{read_from, continues}
use Rattle.t414_assembly.specs.Spelled.{prefix_of}

-- the operand of prefixes ends with a nibble of 0, into which the next nibble is put
pub joined : (operand n : ℕ) → operand % 16 ≡ 0 → n < 16 → bit_or operand n ≡ operand + n
joined operand n same lt =
    let e : operand ≡ operand / 16 * 2 ^ 4 = omega arith in
    ap (λ x. bit_or x n) e ∙ or_shifted (operand / 16) 4 n lt ∙ ap (λ x. x + n) (sym e)

-- a function that is no prefix leaves the operand as it is
pub shifted_plain : (function : Function) (n : ℕ) → continues function ≡ false → shifted function n ≡ n
shifted_plain Prefix n same = cc
shifted_plain NegativePrefix n same = cc
shifted_plain _ n same = refl

-- if the function of a byte is a prefix, reading goes on after the byte with the operand that it makes
pub passes : (operand byte : ℕ) (rest : List ℕ) → continues (function_of (byte / 16)) ≡ true
    → read_from operand (byte ∷ rest) ≡ read_from (accumulated operand byte) rest
unfolding read_from
passes other_operand byte rest same =
    ap (λ b. cond b (read_from (accumulated other_operand byte) rest)
    (Some (record { function = function_of (byte / 16); operand = accumulated other_operand byte; rest = rest })))
    same

-- if the function of a byte is no prefix, the byte ends the instruction
pub ends : (other_operand byte : ℕ) (rest : List ℕ) → continues (function_of (byte / 16)) ≡ false
    → read_from other_operand (byte ∷ rest)
    ≡ Some (record { function = function_of (byte / 16); operand = accumulated other_operand byte; rest = rest })
unfolding read_from
ends other_operand byte rest same =
    ap (λ b. cond b (read_from (accumulated other_operand byte) rest)
    (Some (record { function = function_of (byte / 16); operand = accumulated other_operand byte; rest = rest })))
    same

-- a byte puts its nibble into an operand of prefixes, and its function moves the operand if it is a prefix
pub taken_in : (operand byte n : ℕ) (function : Function) → operand % 16 ≡ 0 → function_of (byte / 16)
    ≡ function → byte % 16 ≡ n
    → accumulated operand byte ≡ shifted function (operand + n)
unfolding accumulated
taken_in operand byte n function same is nibble =
    ap (λ g. shifted g (bit_or operand (byte % 16))) is
    ∙ ap (shifted function) (joined operand (byte % 16) same (omega arith) ∙ ap (λ x. operand + x) nibble)

-- after pfix and nfix the instruction goes on
pub goes_on_prefix : (negative : Bool) → continues (prefix_of negative) ≡ true
goes_on_prefix true = refl
goes_on_prefix false = refl

-- bytes that make an operand, with one more prefix, make the operand with a nibble more, moved by that prefix
pub one_more : (value operand byte : ℕ) (front rest : List ℕ) (negative : Bool)
    → operand + value % 16 ≡ value → operand % 16 ≡ 0 → ((r : List ℕ) → read_from 0 (front ++ r) ≡ read_from operand r)
    → function_of (byte / 16) ≡ prefix_of negative → byte % 16 ≡ value % 16
    → read_from 0 ((front ++ byte ∷ []) ++ rest) ≡ read_from (shifted (prefix_of negative) value) rest
one_more value operand byte front rest negative sum low so_far is nibble =
    ap (read_from 0) (append_assoc front (byte ∷ []) rest) ∙ so_far (byte ∷ rest)
    ∙ passes operand byte rest (ap continues is ∙ goes_on_prefix negative)
    ∙ ap (λ x. read_from x rest)
    (taken_in operand byte (value % 16) (prefix_of negative) low is nibble ∙ ap (shifted (prefix_of negative)) sum)

-- bytes that make an operand, with a byte of a function that is no prefix, mean that function
pub last_one : (operand other_operand byte : ℕ) (front rest : List ℕ) (other_function : Function)
    → other_operand + operand % 16 ≡ operand → other_operand % 16 ≡ 0
    → ((r : List ℕ) → read_from 0 (front ++ r) ≡ read_from other_operand r)
    → continues other_function ≡ false
    → function_of (byte / 16) ≡ other_function → byte % 16 ≡ operand % 16
    → read_from 0 ((front ++ byte ∷ []) ++ rest) ≡ Some
    (record { function = other_function; operand = operand; rest = rest })
last_one operand other_operand byte front rest other_function sum low so_far plain is nibble =
    ap (read_from 0) (append_assoc front (byte ∷ []) rest) ∙ so_far (byte ∷ rest)
    ∙ ends other_operand byte rest (ap continues is ∙ plain)
    ∙ ap (λ g. Some (record { function = g; operand = accumulated other_operand byte; rest = rest })) is
    ∙ ap (λ n. Some (record { function = other_function; operand = n; rest = rest }))
    (taken_in other_operand byte (operand % 16) other_function low is nibble ∙ ap (shifted other_function) sum
    ∙ shifted_plain other_function operand plain)

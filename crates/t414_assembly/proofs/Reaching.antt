-- How far the operand of some prefixes can reach: the clause `shortest` of `spell`, and the clause `fewest` of
-- `prefixes_for`.
use Rattle.std.proofs.Common.{ℕ, ◌≡◌, ◌<◌, ◌≤◌, ◌+◌, ◌-◌, ◌*◌, ◌/◌, ◌%◌, ◌^◌, ◌⊎◌, zero, suc, inl, inr, subst, lit<}
use Rattle.std.proofs.Common.{List, [], ◌∷◌, length, Option, Some, None, true, false, refl, sym, ap, ◌∙◌, arith}
use Rattle.t414_decode.specs.Codes.{function_of, accumulated, shifted}
use Rattle.t414_decode.specs.declared.instruction.Function.{Function}
use Rattle.t414_decode.specs.declared.instruction.Function.TheVariants.{Prefix, NegativePrefix}
use Rattle.t414_decode.specs.Meaning.{Meant, read_from, continues}
use Rattle.std.proofs.Math.Nat.{pow-suc, pow-le-pow_right}
use Rattle.std.proofs.lemmas.Bool.{cases_lt}
use Rattle.t414_assembly.specs.Reach.{Reaches}
use Rattle.t414_assembly.proofs.Bytes.{passes, ends, taken_in, shifted_plain}

-- n is near 0 as a signed number: below a bound, or that far below 2^32
abbrev pub Near : ℕ → ℕ → Type 0
Near bound n = (n < bound) ⊎ (2 ^ 32 ≤ n + bound)

near_shifted : (j c : ℕ) → j < 2 ^ 32 → Near c j → Near (16 * c) (j * 2 ^ 4 % 2 ^ 32)
near_shifted j c word (inl h) = inl (omega arith)
near_shifted j c word (inr h) =
    elim (cases_lt (2 ^ 28) c) [ inl big ↦ inl (omega arith) | inr small ↦ inr (omega arith) ]

near_complement : (j c : ℕ) → j < 2 ^ 32 → Near c j → Near c (2 ^ 32 - 1 - j)
near_complement j c word (inl h) = inr (omega arith)
near_complement j c word (inr h) = inl (omega arith)

-- what an operand is after k prefixes
pub record Prefixed (k : ℕ) (o : ℕ) : Type 0 where
  pub low : o % 16 ≡ 0
  pub word : o < 2 ^ 32
  pub none : k ≡ 0 → o ≡ 0
  pub near : Near (16 ^ (k + 1)) o

power_more : (k : ℕ) → 16 ^ (k + 1) ≡ 16 * 16 ^ k
power_more k =
    let e : k + 1 ≡ suc k = omega arith in
    let swap : 16 ^ k * 16 ≡ 16 * 16 ^ k = omega arith in
    ap (λ x. 16 ^ x) e ∙ pow-suc 16 k ∙ swap

power : (k : ℕ) → 16 * 16 ^ (k + 1) ≡ 16 ^ (k + 1 + 1)
power k = sym (power_more (k + 1))

-- a nibble put in stays within the bound
near_joined : (operand n k : ℕ) → operand % 16 ≡ 0 → n < 16 → Near (16 ^ (k + 1)) operand
    → Near (16 ^ (k + 1)) (operand + n)
near_joined operand n k low lt (inl h) =
    let e : 16 ^ (k + 1) ≡ 16 * 16 ^ k = power_more k in
    inl (omega (arith, e))
near_joined operand n k low lt (inr h) = inr (omega arith)

joined_word : (operand n : ℕ) → operand % 16 ≡ 0 → n < 16 → operand < 2 ^ 32 → operand + n < 2 ^ 32
joined_word operand n low lt word = omega arith

-- an operand with a nibble put in, moved by a prefix
shifted_more : (k j : ℕ) (function : Function) → j < 2 ^ 32 → Near (16 ^ (k + 1)) j → continues function ≡ true
    → Prefixed (k + 1) (shifted function j)
shifted_more k j Prefix word near on = record {
  low = omega arith;
  word = omega arith;
  none = λ h. absurd (omega (arith, h));
  near = subst (λ c. Near c (j * 2 ^ 4 % 2 ^ 32)) (power k) (near_shifted j (16 ^ (k + 1)) word near);
}
shifted_more k j NegativePrefix word near on = record {
  low = omega arith;
  word = omega arith;
  none = λ h. absurd (omega (arith, h));
  near =
      subst (λ c. Near c ((2 ^ 32 - 1 - j) * 2 ^ 4 % 2 ^ 32)) (power k)
      (near_shifted (2 ^ 32 - 1 - j) (16 ^ (k + 1)) (omega arith) (near_complement j (16 ^ (k + 1)) word near));
}
shifted_more k j _ word near on = cc

-- an operand after k prefixes, with the nibble of one more and moved by it, is one after k + 1
pub prefixed_more : (k operand byte : ℕ) → Prefixed k operand → continues (function_of (byte / 16)) ≡ true
    → Prefixed (k + 1) (accumulated operand byte)
prefixed_more k operand byte given on =
    let n : ℕ = byte % 16 in
    let lt : byte % 16 < 16 = omega arith in
    let j : Near (16 ^ (k + 1)) (operand + byte % 16) = near_joined operand (byte % 16) k given.low lt given.near in
    let w : operand + byte % 16 < 2 ^ 32 = joined_word operand (byte % 16) given.low lt given.word in
    subst (Prefixed (k + 1)) (sym (taken_in operand byte (byte % 16) (function_of (byte / 16)) given.low refl refl))
    (shifted_more k (operand + byte % 16) (function_of (byte / 16)) w j on)

reaches_of : (k n operand : ℕ) → n ≡ k → (k ≡ 0 → operand < 16) → Near (16 ^ (k + 1)) operand → Reaches n operand
reaches_of zero zero operand same first near = first refl
reaches_of zero (suc n) operand same first near = absurd (omega (arith, same))
reaches_of (suc k) zero operand same first near = absurd (omega (arith, same))
reaches_of (suc k) (suc n) operand same first near =
    let s : suc k + 1 ≡ n + 2 = omega (arith, same) in subst (λ m. Near (16 ^ m) operand) s near

abbrev operand_in : Option Meant → ℕ
operand_in None = 0
operand_in (Some r) = r.operand

abbrev rest_in : Option Meant → List ℕ
rest_in None = []
rest_in (Some r) = r.rest

-- if bytes are read as one instruction after k prefixes, its operand is within reach of all its prefixes
pub reaches : (others : List ℕ) (k other_operand n operand : ℕ) (other_function : Function)
    → Prefixed k other_operand → read_from other_operand others
    ≡ Some (record { function = other_function; operand = operand; rest = [] })
    → n + 1 ≡ k + length others
    → Reaches n operand
unfolding read_from
reaches [] k other_operand n operand other_function given same equal = cc
reaches (b ∷ bs) k other_operand n operand other_function given same equal =
    (elim (continues (function_of (b / 16))) as (λ g. continues (function_of (b / 16)) ≡ g → Reaches n operand) [
      | true ↦
          λ on. reaches bs (k + 1) (accumulated other_operand b) n operand other_function
          (prefixed_more k other_operand b given on)
          (sym (passes other_operand b bs on) ∙ same) (omega (arith, equal))
      | false ↦ λ off.
          let is : Some (record { function = function_of (b / 16); operand = accumulated other_operand b; rest = bs })
          ≡ Some (record { function = other_function; operand = operand; rest = [] }) =
          sym (ends other_operand b bs off) ∙ same in
          let value : accumulated other_operand b ≡ operand = ap operand_in is in
          let left : bs ≡ [] = ap rest_in is in
          let count : length bs ≡ 0 = ap length left in
          let sum : accumulated other_operand b ≡ other_operand + b % 16 =
          taken_in other_operand b (b % 16) (function_of (b / 16)) given.low refl refl
          ∙ shifted_plain (function_of (b / 16)) (other_operand + b % 16) off in
          reaches_of k n operand (omega (arith, equal, count))
          (λ z. let o-zero : other_operand ≡ 0 = given.none z in omega (arith, value, sum, o-zero))
          (subst (Near (16 ^ (k + 1))) (sym sum ∙ value)
          (near_joined other_operand (b % 16) k given.low (omega arith) given.near))
    ]) refl

-- bytes that are read as one instruction have a byte at least, and with the others they reach its operand
pub reaches_whole : (others : List ℕ) (operand : ℕ) (other_function : Function)
    → read_from 0 others ≡ Some (record { function = other_function; operand = operand; rest = [] })
    → (n : ℕ) × (length others ≡ n + 1) × Reaches n operand
unfolding read_from
reaches_whole [] operand other_function same = cc
reaches_whole (b ∷ bs) operand other_function same =
    let first : Prefixed 0 0 = record { low = refl; word = lit< tt; none = λ _. refl; near = inl (lit< tt) } in
    (length bs, omega arith, reaches (b ∷ bs) 0 0 (length bs) operand other_function first same (omega arith))

-- how a value of prefixes comes from an operand
pub data Uppers : ℕ → ℕ → Type 0 where
  positive : (operand value : ℕ) → operand < 2 ^ 31 → value ≡ operand / 2 ^ 4 → Uppers operand value
  negative : (operand value : ℕ) → operand < 2 ^ 32 → 2 ^ 31 ≤ operand → value ≡ (2 ^ 32 - 1 - operand) / 2 ^ 4
      → Uppers operand value

beyond : (operand value power : ℕ)
    → Uppers operand value → power ≤ 16 * value → (operand < power) ⊎ (2 ^ 32 ≤ operand + power)
    → ⊥
beyond other_operand v power (positive operand value small is) most (inl h) = omega (arith, is)
beyond other_operand v power (positive operand value small is) most (inr h) = omega (arith, is)
beyond other_operand v power (negative operand value word big is) most (inl h) = omega (arith, is)
beyond other_operand v power (negative operand value word big is) most (inr h) = omega (arith, is)

-- no fewer prefixes reach the operand than the value has digits
pub fewest : (operand value count n : ℕ)
    → 16 ≤ operand → Uppers operand value → (count ≡ 1) ⊎ (16 ^ (count - 1) ≤ value) → Reaches n operand
    → count ≤ n
fewest operand value count zero least uppers digits reached = absurd (omega arith)
fewest operand value count (suc n) least uppers (inl one) reached = omega (arith, one)
fewest operand value count (suc n) least uppers (inr digits) reached =
    elim (cases_lt (suc n) count) [
      | inl more ↦
          let monotone : 16 ^ (n + 1) ≤ 16 ^ (count - 1) = pow-le-pow_right (lit< tt) (omega arith) in
          let split : 16 ^ (n + 2) ≡ 16 * 16 ^ (n + 1) =
          (let e : n + 2 ≡ n + 1 + 1 = omega arith in ap (λ x. 16 ^ x) e ∙ power_more (n + 1)) in
          let least_power : 16 ^ (n + 2) ≤ 16 * value = omega (arith, split, monotone) in
          absurd (beyond operand value (16 ^ (n + 2)) uppers least_power reached)
      | inr few ↦ few
    ]

-- The usual spelling, prefix by prefix: the clauses `usual` of `prefixes` and `prefixes_for`.
use Rattle.std.proofs.Common.{ℕ, ◌≡◌, ◌<◌, ◌≤◌, ◌-◌, ◌*◌, ◌/◌, ◌^◌, ◌++◌, ◌⊎◌, inl, inr, List, []}
use Rattle.std.proofs.Common.{◌∷◌, Bool, true, false, cond, nat_lt, zero, suc, sym, ap, ◌∙◌, arith}
use Rattle.std.proofs.Math.Nat.{pow-suc}
use Rattle.std.proofs.lemmas.Bool.Decides.{nat_tests}
use Rattle.t414_assembly.specs.Spelled.{prefix_of}
use Rattle.t414_assembly.specs.Usual.{byte_with, prefix_bytes, prefixes_of}

-- if a is below b, the test says so
pub less_true : (a b : ℕ) → a < b → nat_lt a b ≡ true
less_true a b less = grind (arith, nat_tests)

-- if a isn't below b, the test says so
pub less_false : (a b : ℕ) → b ≤ a → nat_lt a b ≡ false
less_false a b less = grind (arith, nat_tests)

some_most : (most value : ℕ) → 16 ≤ value → value / 16 < 16 ^ most → 0 < most
some_most zero value ge less = absurd (omega (arith, ge, less))
some_most (suc most) value ge less = omega arith

-- the prefixes of a value are those of its higher nibbles, if it has any, and one of its lowest nibble
pub more_prefixes : (most value byte : ℕ) (negative : Bool) (front : List ℕ)
    → value < 16 ^ most → 0 < most
    → ((value < 16) × (front ≡ []))
    ⊎ ((16 ≤ value) × ((m : ℕ) → value / 16 < 16 ^ m → 0 < m → front ≡ prefix_bytes m (value / 16) false))
    → byte ≡ byte_with (prefix_of negative) value
    → front ++ byte ∷ [] ≡ prefix_bytes most value negative
unfolding prefix_bytes
more_prefixes zero value byte negative front small some cases is = absurd (omega arith)
more_prefixes (suc most) value byte negative front small some (inl (lt, none)) is =
    ap (λ xs. xs ++ byte ∷ []) none ∙ ap (λ b. b ∷ []) is
    ∙ sym (ap (λ t. cond t [] (prefix_bytes most (value / 16) false) ++ byte_with (prefix_of negative) value ∷ [])
    (less_true value 16 lt))
more_prefixes (suc most) value byte negative front small some (inr (ge, more)) is =
    let power : 16 ^ suc most ≡ 16 ^ most * 16 = pow-suc 16 most in
    let less : value / 16 < 16 ^ most = omega (arith, small, power) in
    ap (λ xs. xs ++ byte ∷ []) (more most less (some_most most value ge less))
    ∙ ap (λ b. prefix_bytes most (value / 16) false ++ b ∷ []) is
    ∙ sym (ap (λ t. cond t [] (prefix_bytes most (value / 16) false) ++ byte_with (prefix_of negative) value ∷ [])
    (less_false value 16 ge))

-- an operand below 16 has no prefixes
pub none_of : (operand : ℕ) → operand < 16 → [] ≡ prefixes_of operand
unfolding prefixes_of
none_of operand lt =
    sym (ap (λ t. cond t []
    (cond (nat_lt operand (2 ^ 31)) (prefix_bytes 7 (operand / 16) false)
    (prefix_bytes 7 ((2 ^ 32 - 1 - operand) / 16) true)))
    (less_true operand 16 lt))

-- a positive operand of 16 or more has the prefixes of its higher nibbles
pub positive_of : (operand : ℕ) → 16 ≤ operand → operand < 2 ^ 31
    → prefix_bytes 7 (operand / 16) false ≡ prefixes_of operand
unfolding prefixes_of
positive_of operand ge lt =
    sym (ap (λ t. cond t []
    (cond (nat_lt operand (2 ^ 31)) (prefix_bytes 7 (operand / 16) false)
    (prefix_bytes 7 ((2 ^ 32 - 1 - operand) / 16) true)))
    (less_false operand 16 ge)
    ∙ ap (λ t. cond t (prefix_bytes 7 (operand / 16) false) (prefix_bytes 7 ((2 ^ 32 - 1 - operand) / 16) true))
    (less_true operand (2 ^ 31) lt))

-- a negative operand has the prefixes of its complement's higher nibbles, and the last is nfix
pub negative_of : (operand : ℕ) → 2 ^ 31 ≤ operand
    → prefix_bytes 7 ((2 ^ 32 - 1 - operand) / 16) true ≡ prefixes_of operand
unfolding prefixes_of
negative_of operand ge =
    sym (ap (λ t. cond t []
    (cond (nat_lt operand (2 ^ 31)) (prefix_bytes 7 (operand / 16) false)
    (prefix_bytes 7 ((2 ^ 32 - 1 - operand) / 16) true)))
    (less_false operand 16 (omega arith))
    ∙ ap (λ t. cond t (prefix_bytes 7 (operand / 16) false) (prefix_bytes 7 ((2 ^ 32 - 1 - operand) / 16) true))
    (less_false operand (2 ^ 31) ge))

-- The bytes of a word, taken apart and put together again: the address that a peek sends, and the word that comes back.
use Rattle.std.proofs.Common.{◌≡◌, ℕ, ◌+◌, ◌*◌, ◌/◌, ◌%◌, ◌^◌, ◌<◌, [], ◌∷◌, refl, ◌∙◌, arith}
use Rattle.std.proofs.Math.Nat.{div-div-eq-div-mul}
use Rattle.bootstrap.specs.Boot.{shifted_down}
use Rattle.bootstrap.specs.Messages.{bytes_of_word}

-- four bytes, shifted in one after another
abbrev pub four_in : ℕ → ℕ → ℕ → ℕ → ℕ
four_in a b c d = shifted_down d (shifted_down c (shifted_down b (shifted_down a 0)))

four_in-sum : (a b c d : ℕ) → four_in a b c d ≡ a + b * 2 ^ 8 + c * 2 ^ 16 + d * 2 ^ 24
four_in-sum a b c d = omega arith

bytes-sum : (w : ℕ) → w < 2 ^ 32
    → w % 2 ^ 8 + w / 2 ^ 8 % 2 ^ 8 * 2 ^ 8 + w / 2 ^ 16 % 2 ^ 8 * 2 ^ 16 + w / 2 ^ 24 % 2 ^ 8 * 2 ^ 24 ≡ w
bytes-sum w lt = omega arith

-- the bytes of an address come to it
pub bytes-come-to : (w : ℕ) → w < 2 ^ 32
    → four_in (w % 2 ^ 8) (w / 2 ^ 8 % 2 ^ 8) (w / 2 ^ 16 % 2 ^ 8) (w / 2 ^ 24 % 2 ^ 8) ≡ w
bytes-come-to w lt =
    four_in-sum (w % 2 ^ 8) (w / 2 ^ 8 % 2 ^ 8) (w / 2 ^ 16 % 2 ^ 8) (w / 2 ^ 24 % 2 ^ 8) ∙ bytes-sum w lt

-- the lowest byte of what is left, four times
pub bytes-in-turn : (w : ℕ)
    → w % 2 ^ 8 ∷ w / 2 ^ 8 % 2 ^ 8 ∷ w / 2 ^ 8 / 2 ^ 8 % 2 ^ 8 ∷ w / 2 ^ 8 / 2 ^ 8 / 2 ^ 8 % 2 ^ 8 ∷ []
    ≡ bytes_of_word w
bytes-in-turn w =
    let twice : w / 2 ^ 8 / 2 ^ 8 ≡ w / 2 ^ 16 = div-div-eq-div-mul w (2 ^ 8) (2 ^ 8) in
    let thrice : w / 2 ^ 16 / 2 ^ 8 ≡ w / 2 ^ 24 = div-div-eq-div-mul w (2 ^ 16) (2 ^ 8) in
    rw (twice, thrice) refl

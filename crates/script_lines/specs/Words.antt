-- The words of a line, and what a word spells.
use Rattle.std.specs.Prelude.{◌≡◌, ◌==◌, ◌<◌, ℕ, Bool, List, [], ◌∷◌}
use Rattle.std.specs.List.{slice_split}
use Rattle.std.specs.Int.{w32, from_be_bytes}
use Rattle.std.specs.Str.Parse.{IsNumeral, digits_value}
use Rattle.script_text.specs.Hexadecimal.{Spells}

-- the byte between words
abbrev pub is_blank : ℕ → Bool
is_blank byte = byte == 32

-- the words of a line: what is between single blanks
abbrev pub words_between : List ℕ → List (List ℕ)
words_between line = slice_split is_blank line

-- a word spells the number of a host or node: decimal digits, at least one, whose value is below 256
pub record IsDecimal (word : List ℕ) (number : ℕ) : Type 0 where
  pub digits : IsNumeral 10 word
  pub value : digits_value 10 word ≡ number
  pub small : number < 256

-- a word spells a word of 32 bits: eight hexadecimal digits, the most significant first
abbrev pub IsWord : List ℕ → ℕ → Type 0
IsWord word value =
    (a b c d : ℕ) × Spells word (a ∷ b ∷ c ∷ d ∷ [])
    × (value ≡ from_be_bytes w32 (a ∷ b ∷ c ∷ d ∷ []))

-- What numbers words spell.
use Rattle.std.specs.Prelude.{◌≡◌, ◌<◌, ◌^◌, ℕ, List, Option, Some, None}
use Rattle.std.specs.Str.Parse.{IsNumeral, digits_value}

-- the word is digits in the radix, one or more, of a number that fits in `bits` bits
abbrev pub IsNumber : ℕ → ℕ → List ℕ → Type 0
IsNumber radix bits word = IsNumeral radix word × (digits_value radix word < 2 ^ bits)

-- the number that the word's digits say; none if it isn't such a number
abbrev pub IsNumberOf : ℕ → ℕ → List ℕ → Option ℕ → Type 0
IsNumberOf radix bits word None = ¬ IsNumber radix bits word
IsNumberOf radix bits word (Some number) = IsNumber radix bits word × (number ≡ digits_value radix word)

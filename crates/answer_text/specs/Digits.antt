-- A byte as digits.
use Rattle.std.specs.Prelude.{ℕ, ◌/◌, ◌%◌, List, [], ◌∷◌, false}
use Rattle.std.specs.Fmt.{digit_glyph}

-- two hexadecimal digits in lower case, the high one first
abbrev pub byte_text : ℕ → List ℕ
byte_text byte = digit_glyph false (byte / 16) ∷ digit_glyph false (byte % 16) ∷ []

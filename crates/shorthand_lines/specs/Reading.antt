-- What is read of a text: the byte that its first character means, and what is after that character.
use Rattle.std.specs.Prelude.{◌+◌, ◌*◌, ◌==◌, ℕ, List, [], ◌∷◌, Option, Some, None, if◌then◌else◌}
use Rattle.hex.specs.Hex.{hex_digit_value}
use Rattle.shorthand_lines.specs.QuotedTexts.{quote, backslash, letter_x, escaped}

-- the byte of two values of digits
abbrev pub value_of_two : Option ℕ → Option ℕ → Option ℕ
value_of_two (Some high) (Some low) = Some (high * 16 + low)
value_of_two high low = None

-- the byte that two hexadecimal digits mean
unfoldable pub two_digits : ℕ → ℕ → Option ℕ
two_digits high low = value_of_two (hex_digit_value high) (hex_digit_value low)

-- a byte, if there is one, with what is after it
abbrev pub byte_and_rest : Option ℕ → List ℕ → Option (ℕ × List ℕ)
byte_and_rest None rest = None
byte_and_rest (Some byte) rest = Some (byte, rest)

-- what is read after a backslash and an x
abbrev pub read_after_x : List ℕ → Option (ℕ × List ℕ)
read_after_x (high ∷ low ∷ rest) = byte_and_rest (two_digits high low) rest
read_after_x text = None

-- what is read after a backslash
abbrev pub read_after_backslash : List ℕ → Option (ℕ × List ℕ)
read_after_backslash [] = None
read_after_backslash (letter ∷ rest) =
    if letter == letter_x then read_after_x rest else byte_and_rest (escaped letter) rest

-- what is read at the beginning of a text
abbrev pub read_character : List ℕ → Option (ℕ × List ℕ)
read_character [] = None
read_character (first ∷ rest) =
    if first == backslash then read_after_backslash rest else (if first == quote then None else Some (first, rest))

-- A text in quotes, and the bytes that it means. The escapes are our own choice, out of those that byte strings of C
-- and of Rust have: \n, \r, \t, \0, \\, \", and \x with two hexadecimal digits.
use Rattle.std.specs.Prelude.{◌≡◌, ◌≢◌, ◌==◌, ℕ, List, [], ◌∷◌, ◌++◌, Option, Some, None, if◌then◌else◌}
use Rattle.script_text.specs.Hexadecimal.{Spells}

-- the byte before a text and after it
abbrev pub quote : ℕ
quote = 34

-- the byte with which an escape begins
abbrev pub backslash : ℕ
backslash = 92

-- the letter between a backslash and two hexadecimal digits
abbrev pub letter_x : ℕ
letter_x = 120

-- each other letter that may follow a backslash, with the byte that it means there
abbrev pub escapes : List (ℕ × ℕ)
escapes =
    (110, 10) ∷  -- \n: line feed
    (114, 13) ∷  -- \r: carriage return
    (116, 9) ∷  -- \t: tab
    (48, 0) ∷  -- \0: the byte 0
    (92, 92) ∷  -- \\: a backslash
    (34, 34) ∷  -- \": a quote
    []

-- the byte that a list of escapes has for a letter
abbrev pub byte_among : List (ℕ × ℕ) → ℕ → Option ℕ
byte_among [] letter = None
byte_among (escape ∷ others) letter = if letter == escape.0 then Some escape.1 else byte_among others letter

-- the byte that a letter means after a backslash, if it means one
unfoldable pub escaped : ℕ → Option ℕ
escaped letter = byte_among escapes letter

-- these bytes are one character of a text, which means this byte: any byte but a quote and a backslash means itself, a
-- backslash and a letter what the list says, and a backslash, an x and two hexadecimal digits the byte that these spell
abbrev pub IsCharacter : List ℕ → ℕ → Type 0
IsCharacter (first ∷ []) byte = (first ≡ byte) × (first ≢ quote) × (first ≢ backslash)
IsCharacter (first ∷ letter ∷ []) byte = (first ≡ backslash) × (escaped letter ≡ Some byte)
IsCharacter (first ∷ letter ∷ high ∷ low ∷ []) byte =
    (first ≡ backslash) × (letter ≡ letter_x) × Spells (high ∷ low ∷ []) (byte ∷ [])
IsCharacter bytes byte = ⊥

-- a text means these bytes: it is a character for each of them, one after another
abbrev pub TextMeans : List ℕ → List ℕ → Type 0
TextMeans text [] = text ≡ []
TextMeans text (byte ∷ bytes) =
    (character rest : List ℕ) × (text ≡ character ++ rest) × IsCharacter character byte × TextMeans rest bytes

-- a quote, a text that means these bytes, one at least, and a quote
pub record IsQuotedText (quoted bytes : List ℕ) : Type 0 where
  pub text : List ℕ
  pub quotes : quoted ≡ quote ∷ text ++ quote ∷ []
  pub means : TextMeans text bytes
  pub some : bytes ≢ []

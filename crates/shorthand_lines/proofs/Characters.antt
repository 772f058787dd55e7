-- What is read at the beginning of a text is its first character, and no other character is there: for the loop of
-- `bytes_meant`.
use Rattle.std.proofs.Common.{◌≡◌, ◌≢◌, ◌==◌, ◌+◌, ◌*◌, ◌++◌, ℕ, List, Bool, true, false, cond, [], ◌∷◌}
use Rattle.std.proofs.Common.{Option, Some, None, Result, Ok, refl, sym, ap, ◌∙◌, eq-eqb, ne_eqb, eqb-true}
use Rattle.std.proofs.lemmas.Bool.{cond-true, cond-false, eqb-false}
use Rattle.hex.specs.Hex.{hex_digit_value, digit_or_error, decode_of, decode_pairs, ◌>>=◌}
use Rattle.hex.specs.declared.error.FromHexError.{FromHexError}
use Rattle.script_text.specs.Hexadecimal.{Spells}
use Rattle.shorthand_lines.specs.QuotedTexts.{quote, backslash, letter_x, escaped, IsCharacter}
use Rattle.shorthand_lines.specs.Reading.{value_of_two, two_digits, byte_and_rest, read_after_x, read_after_backslash, read_character}

-- ---- what readings hold

-- what two equal options hold
some_is : (one other : ℕ × List ℕ) → Some one ≡ Some other → one ≡ other
some_is one other same = ap (held one) same
  where
    held : ℕ × List ℕ → Option (ℕ × List ℕ) → ℕ × List ℕ
    held default None = default
    held default (Some it) = it

-- a reading has one byte, and one rest
pub same_reading : (reading : Option (ℕ × List ℕ)) (byte another : ℕ) (rest other : List ℕ)
    → reading ≡ Some (byte, rest) → reading ≡ Some (another, other)
    → (byte ≡ another) × (rest ≡ other)
same_reading reading byte another rest other one two =
    let both = some_is (byte, rest) (another, other) (sym one ∙ two) in (ap (λ it. it.0) both, ap (λ it. it.1) both)

-- a reading of a byte with a rest is that byte and that rest
byte_read : (found : Option ℕ) (after : List ℕ) (byte : ℕ) (rest : List ℕ)
    → byte_and_rest found after ≡ Some (byte, rest)
    → (found ≡ Some byte) × (after ≡ rest)
byte_read None after byte rest is = absurd (cc)
byte_read (Some another) after byte rest is =
    let same = same_reading (Some (another, after)) another byte after rest refl is in (ap Some same.0, same.1)

-- ---- two hexadecimal digits

-- what two digits with these values are decoded to
abbrev decoded : ℕ → ℕ → Option ℕ → Option ℕ → Result (List ℕ) FromHexError
decoded high low one other =
    (digit_or_error high 0 one
    >>= (λ first. digit_or_error low 1 other >>= (λ second. Ok (first * 16 + second))))
    >>= (λ byte. Ok (byte ∷ []))

decoded_is : (high low : ℕ)
    → decode_of (high ∷ low ∷ []) ≡ decoded high low (hex_digit_value high) (hex_digit_value low)
unfolding decode_pairs
decoded_is high low = refl

decoded_to : (high low byte : ℕ) (one other : Option ℕ) → value_of_two one other ≡ Some byte
    → decoded high low one other ≡ Ok (byte ∷ [])
decoded_to high low byte None other is = absurd (cc)
decoded_to high low byte (Some first) None is = absurd (cc)
decoded_to high low byte (Some first) (Some second) is =
    let same : first * 16 + second ≡ byte = cc in ap (λ it. Ok (it ∷ [])) same

decoded_from : (high low byte : ℕ) (one other : Option ℕ) → decoded high low one other ≡ Ok (byte ∷ [])
    → value_of_two one other ≡ Some byte
decoded_from high low byte None other is = absurd (cc)
decoded_from high low byte (Some first) None is = absurd (cc)
decoded_from high low byte (Some first) (Some second) is =
    let same : first * 16 + second ≡ byte = cc in ap Some same

-- the byte of two digits is the one that they spell
digits_spell : (high low byte : ℕ) → two_digits high low ≡ Some byte → Spells (high ∷ low ∷ []) (byte ∷ [])
unfolding two_digits
digits_spell high low byte is =
    decoded_is high low ∙ decoded_to high low byte (hex_digit_value high) (hex_digit_value low) is

-- two digits that spell a byte are of this byte
spelled_digits : (high low byte : ℕ) → Spells (high ∷ low ∷ []) (byte ∷ []) → two_digits high low ≡ Some byte
unfolding two_digits
spelled_digits high low byte spells =
    decoded_from high low byte (hex_digit_value high) (hex_digit_value low) (sym (decoded_is high low) ∙ spells)

-- ---- what is read is a character

-- a text begins with a character that means this byte, and this is what is after it
abbrev pub Begins : List ℕ → ℕ → List ℕ → Type 0
Begins text byte rest = (character : List ℕ) × (text ≡ character ++ rest) × IsCharacter character byte

x_begins : (first letter byte : ℕ) (more rest : List ℕ) → first ≡ backslash → letter ≡ letter_x
    → read_after_x more ≡ Some (byte, rest)
    → Begins (first ∷ letter ∷ more) byte rest
x_begins first letter byte [] rest slash is_x is = absurd (cc)
x_begins first letter byte (high ∷ []) rest slash is_x is = absurd (cc)
x_begins first letter byte (high ∷ low ∷ after) rest slash is_x is =
    let read = byte_read (two_digits high low) after byte rest is in (
      first ∷ letter ∷ high ∷ low ∷ [],
      ap (λ it. first ∷ letter ∷ high ∷ low ∷ it) read.1,
      (slash, is_x, digits_spell high low byte read.0),
    )

letter_begins : (first letter byte : ℕ) (more rest : List ℕ) (is_x : Bool) → first ≡ backslash
    → (letter == letter_x) ≡ is_x
    → cond is_x (read_after_x more) (byte_and_rest (escaped letter) more) ≡ Some (byte, rest)
    → Begins (first ∷ letter ∷ more) byte rest
letter_begins first letter byte more rest true slash test is =
    x_begins first letter byte more rest slash (eqb-true letter letter_x test) is
letter_begins first letter byte more rest false slash test is =
    let read = byte_read (escaped letter) more byte rest is in
    (first ∷ letter ∷ [], ap (λ it. first ∷ letter ∷ it) read.1, (slash, read.0))

escape_begins : (first byte : ℕ) (more rest : List ℕ) → first ≡ backslash
    → read_after_backslash more ≡ Some (byte, rest)
    → Begins (first ∷ more) byte rest
escape_begins first byte [] rest slash is = absurd (cc)
escape_begins first byte (letter ∷ more) rest slash is =
    letter_begins first letter byte more rest (letter == letter_x) slash refl is

first_begins : (first byte : ℕ) (more rest : List ℕ) (is_slash is_quote : Bool) → (first == backslash) ≡ is_slash
    → (first == quote) ≡ is_quote
    → cond is_slash (read_after_backslash more) (cond is_quote None (Some (first, more))) ≡ Some (byte, rest)
    → Begins (first ∷ more) byte rest
first_begins first byte more rest true is_quote slash mark is =
    escape_begins first byte more rest (eqb-true first backslash slash) is
first_begins first byte more rest false true slash mark is = absurd (cc)
first_begins first byte more rest false false slash mark is =
    let same = same_reading (Some (first, more)) first byte more rest refl is in (
      first ∷ [],
      ap (λ it. first ∷ it) same.1,
      (same.0, eqb-false first quote mark, eqb-false first backslash slash),
    )

-- what is read of a text is a character with which it begins, and what is after it
pub read_begins : (text : List ℕ) (byte : ℕ) (rest : List ℕ) → read_character text ≡ Some (byte, rest)
    → Begins text byte rest
read_begins [] byte rest is = absurd (cc)
read_begins (first ∷ more) byte rest is =
    first_begins first byte more rest (first == backslash) (first == quote) refl refl is

-- ---- a character is read

plain_read : (first byte : ℕ) (rest : List ℕ) → first ≡ byte → first ≢ quote → first ≢ backslash
    → read_character (first ∷ rest) ≡ Some (byte, rest)
plain_read first byte rest same no_quote no_slash =
    cond-false (first == backslash) _ _ (ne_eqb first backslash no_slash)
    ∙ cond-false (first == quote) _ _ (ne_eqb first quote no_quote)
    ∙ ap (λ it. Some (it, rest)) same

no_escape_x : escaped letter_x ≡ None
unfolding escaped
no_escape_x = refl

is_no_x : (letter byte : ℕ) → escaped letter ≡ Some byte → letter ≢ letter_x
is_no_x letter byte means is_x =
    let none : escaped letter ≡ None = ap escaped is_x ∙ no_escape_x in cc

slash_read : (first : ℕ) (more : List ℕ) → first ≡ backslash
    → read_character (first ∷ more) ≡ read_after_backslash more
slash_read first more slash = cond-true (first == backslash) _ _ (eq-eqb first backslash slash)

letter_read : (letter byte : ℕ) (rest : List ℕ) → escaped letter ≡ Some byte
    → read_after_backslash (letter ∷ rest) ≡ Some (byte, rest)
letter_read letter byte rest means =
    cond-false (letter == letter_x) _ _ (ne_eqb letter letter_x (is_no_x letter byte means))
    ∙ ap (λ it. byte_and_rest it rest) means

x_read : (letter high low byte : ℕ) (rest : List ℕ) → letter ≡ letter_x → Spells (high ∷ low ∷ []) (byte ∷ [])
    → read_after_backslash (letter ∷ high ∷ low ∷ rest) ≡ Some (byte, rest)
x_read letter high low byte rest is_x spells =
    cond-true (letter == letter_x) _ _ (eq-eqb letter letter_x is_x)
    ∙ ap (λ it. byte_and_rest it rest) (spelled_digits high low byte spells)

-- a character with which a text begins is what is read of it, with what is after it
pub character_read : (text : List ℕ) (byte : ℕ) (rest character : List ℕ) → text ≡ character ++ rest
    → IsCharacter character byte
    → read_character text ≡ Some (byte, rest)
character_read text byte rest [] same is = absurd is
character_read text byte rest (first ∷ []) same is =
    ap read_character same ∙ plain_read first byte rest is.0 is.1 is.2
character_read text byte rest (first ∷ letter ∷ []) same is =
    ap read_character same ∙ slash_read first (letter ∷ rest) is.0 ∙ letter_read letter byte rest is.1
character_read text byte rest (first ∷ letter ∷ high ∷ []) same is = absurd is
character_read text byte rest (first ∷ letter ∷ high ∷ low ∷ []) same is =
    ap read_character same ∙ slash_read first (letter ∷ high ∷ low ∷ rest) is.0
    ∙ x_read letter high low byte rest is.1 is.2
character_read text byte rest (first ∷ letter ∷ high ∷ low ∷ another ∷ more) same is = absurd is

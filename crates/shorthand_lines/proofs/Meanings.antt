-- What a text means, as far as it is read, and a text in quotes: for the loop of `bytes_meant`, for `without_quotes`
-- and for `quoted_bytes`.
use Rattle.std.proofs.Common.{◌≡◌, ◌<◌, ◌++◌, ℕ, List, [], ◌∷◌, Some, None, length}
use Rattle.std.proofs.Common.{refl, sym, ap, ◌∙◌, subst, append_assoc, append-nil, arith}
use Rattle.std.proofs.lemmas.List.{same_from_push}
use Rattle.shorthand_lines.specs.QuotedTexts.{quote, TextMeans, IsQuotedText}
use Rattle.shorthand_lines.specs.Reading.{read_character}
use Rattle.shorthand_lines.proofs.Characters.{same_reading, read_begins, character_read}

-- a list without elements is the empty one
pub empty_from_length : (list : List ℕ) → length list ≡ 0 → list ≡ []
empty_from_length [] none = refl
empty_from_length (first ∷ rest) none = absurd (omega arith)

-- ---- as far as a text is read

-- the text means these bytes, and then whatever its rest means
pub record IsMeantTo (text rest bytes : List ℕ) : Type 0 where
  pub onwards : (more : List ℕ) → TextMeans rest more → TextMeans text (bytes ++ more)
  pub back : (all : List ℕ) → TextMeans text all → (more : List ℕ) × (all ≡ bytes ++ more) × TextMeans rest more

-- before anything is read
pub meant_at_start : (text bytes : List ℕ) → bytes ≡ [] → IsMeantTo text text bytes
meant_at_start text bytes none =
    subst (IsMeantTo text text) (sym none)
    (record { onwards = λ more meant. meant; back = λ all meant. (all, refl, meant) })

read_back : (rest after bytes all more : List ℕ) (byte : ℕ) → read_character rest ≡ Some (byte, after)
    → all ≡ bytes ++ more → TextMeans rest more
    → (others : List ℕ) × (all ≡ (bytes ++ byte ∷ []) ++ others) × TextMeans after others
read_back rest after bytes all [] byte is whole meant =
    let none : read_character rest ≡ None = ap read_character meant in absurd (cc)
read_back rest after bytes all (another ∷ others) byte is whole meant =
    let read = character_read rest another meant.1 meant.0 meant.2 meant.3 in
    let same = same_reading (read_character rest) byte another after meant.1 is read in (
      others,
      whole ∙ ap (λ it. bytes ++ it ∷ others) (sym same.0) ∙ sym (append_assoc bytes (byte ∷ []) others),
      subst (λ it. TextMeans it others) (sym same.1) meant.4,
    )

-- after one more character
pub meant_more : (text rest after bytes more : List ℕ) (byte : ℕ) → IsMeantTo text rest bytes
    → read_character rest ≡ Some (byte, after) → more ≡ bytes ++ byte ∷ []
    → IsMeantTo text after more
meant_more text rest after bytes more byte meant is gained =
    let begins = read_begins rest byte after is in
    subst (IsMeantTo text after) (sym gained)
    (record {
      onwards = λ others follows.
          subst (TextMeans text) (sym (append_assoc bytes (byte ∷ []) others))
          (meant.onwards (byte ∷ others) (begins.0, after, begins.1, begins.2, follows));
      back = λ all is_all.
          let before = meant.back all is_all in
          read_back rest after bytes all before.0 byte is before.1 before.2;
    })

-- if nothing is left the text means what was read
pub meant_whole : (text rest bytes : List ℕ) → IsMeantTo text rest bytes → length rest ≡ 0 → TextMeans text bytes
meant_whole text rest bytes meant none =
    subst (TextMeans text) (append-nil bytes) (meant.onwards [] (empty_from_length rest none))

nothing_meant : (rest more : List ℕ) → 0 < length rest → read_character rest ≡ None → ¬ TextMeans rest more
nothing_meant rest [] some none meant = omega (arith, ap length meant, some)
nothing_meant rest (byte ∷ more) some none meant =
    let read = character_read rest byte meant.1 meant.0 meant.2 meant.3 in cc

-- if the rest begins with no character the text means nothing
pub meant_nothing : (text rest bytes : List ℕ) → IsMeantTo text rest bytes → 0 < length rest
    → read_character rest ≡ None → (all : List ℕ)
    → ¬ TextMeans text all
meant_nothing text rest bytes meant some none all is =
    let before = meant.back all is in nothing_meant rest before.0 some none before.2

-- ---- between quotes

-- what is between two quotes, if it is between any
same_between : (text other : List ℕ) → quote ∷ text ++ quote ∷ [] ≡ quote ∷ other ++ quote ∷ []
    → text ≡ other
same_between text other same =
    let after : text ++ quote ∷ [] ≡ other ++ quote ∷ [] = cc in (same_from_push text other quote quote after).0

empty_means : (bytes : List ℕ) → TextMeans [] bytes → bytes ≡ []
empty_means [] meant = refl
empty_means (byte ∷ bytes) meant =
    let read = character_read [] byte meant.1 meant.0 meant.2 meant.3 in absurd (cc)

-- if what is between two quotes means no byte, there is no text in quotes
pub empty_means_nothing : (quoted text none : List ℕ) → quoted ≡ quote ∷ text ++ quote ∷ [] → TextMeans text none
    → length none ≡ 0 → (bytes : List ℕ)
    → ¬ IsQuotedText quoted bytes
empty_means_nothing quoted text none quotes meant without bytes is =
    let empty : text ≡ [] = subst (TextMeans text) (empty_from_length none without) meant in
    let same : is.text ≡ [] = same_between is.text text (sym is.quotes ∙ quotes) ∙ empty in
    is.some (empty_means bytes (subst (λ it. TextMeans it bytes) same is.means))

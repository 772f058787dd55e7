-- The row of words that nobody shares, for the contracts of `PlainOutputs` and for `rows_are_words_of_ports`.
use Rattle.std.proofs.Common.{◌≡◌, ◌⊎◌, inl, inr, ℕ, zero, suc, ◌<◌, ◌+◌, Option, Some, None, List, [], ◌∷◌, ◌++◌}
use Rattle.std.proofs.Common.{length, take, set, get_or, slice_get, slice_set, replicate, All, refl, sym, ap, ◌∙◌}
use Rattle.std.proofs.Common.{subst, arith}
use Rattle.std.proofs.lemmas.Option.{slice_get-get_or, slice_get_within, get_or_from_slice_get}
use Rattle.std.proofs.lemmas.List.{take_more_set, take_more, length-set}
use Rattle.std.proofs.Math.Seq.{take-set-lt}
use Rattle.std.proofs.lemmas.List.Elements.{All-set, All-replicate, filter_map-append}
use Rattle.std.specs.List.{cons_option}
use Rattle.std.specs.FinMap as map
use Rattle.std.specs.FinSet as set
use Rattle.std.specs.Ordering.{nat_cmp}
use Rattle.crossbar.specs.declared.word.Word.{Word}
use Rattle.crossbar.specs.declared.range.PortRange.{PortRange}
use Rattle.crossbar.specs.Switch.{cleared}
use Rattle.crossbar.specs.Ranges.{IsNumbering, AreRanges, ranged_ports}
use Rattle.crossbar.specs.Row.{Row, IsRow, IsWordOf, switch_of, connection_at, input_of, is_ready}
use Rattle.crossbar.specs.Changed.{row_with}
use Rattle.crossbar.specs.Plain.{IsPlain, IsPlainRow, words_at}
use Rattle.crossbar.proofs.Below.{same_switch}
use Rattle.crossbar.proofs.Switching.{get-switch_of, contains-switch_of}
use Rattle.crossbar.proofs.Numberings.{at-most-32-ports, numbering_in}

-- ---- a write

-- a row stays one if a word of these ports is stored in it
pub set_row : (row : Row) (output : ℕ) (word : Word) → IsRow row → IsWordOf row.ports word
    → IsRow (row_with row output word)
set_row row output word is_row proper = record {
  length_is = length-set row.words output word ∙ is_row.length_is;
  few = is_row.few;
  below = is_row.below;
  one_to_one = is_row.one_to_one;
  each = All-set (IsWordOf row.ports) row.words output word proper is_row.each;
}

-- storing a word below the number of ports stores it in the front part, which has as many words as there are ports
pub front_set : (ports : List ℕ) (words : List Word) (number at : ℕ) (word : Word) → at ≡ number → number < length ports
    → take (length ports) (slice_set words at word) ≡ slice_set (take (length ports) words) number word
front_set ports words number at word is inside =
    ap (λ (a : ℕ). take (length ports) (slice_set words a word)) is
    ∙ take-set-lt (length ports) words number word inside

-- a plain row stays one if a word of these ports is stored in it
pub plain_set : (ports : List ℕ) (words : List Word) (number at : ℕ) (word : Word)
    → IsPlainRow ports words → at ≡ number → number < length ports → IsWordOf ports word
    → IsPlainRow ports (slice_set words at word)
plain_set ports words number at word row is inside proper = record {
  room = length-set words at word ∙ row.room;
  row =
      subst (λ (ws : List Word). IsRow (record { ports = ports; words = ws }))
      (sym (front_set ports words number at word is inside)) (set_row _ number word row.row proper);
}

-- ---- the words of the ports, one by one

words_more : (words : List Word) (ports : List ℕ) (n port : ℕ) (word : Word) → slice_get ports n ≡ Some port
    → slice_get words port ≡ Some word
    → words_at words (take (n + 1) ports) ≡ words_at words (take n ports) ++ word ∷ []
words_more words ports n port word at is =
    let more =
    take_more ports n port (slice_get_within ports n port at)
    ∙ ap (λ (p : ℕ). take n ports ++ p ∷ []) (get_or_from_slice_get ports n port port at) in
    ap (words_at words) more ∙ filter_map-append (slice_get words) (take n ports) (port ∷ [])
    ∙ ap (λ o. words_at words (take n ports) ++ cons_option o []) is

-- the first n words are those of the first n ports
pub record Gathers (words : List Word) (ports : List ℕ) (own : List Word) (n : ℕ) : Type 0 where
  pub room : length own ≡ 32
  pub front : take n own ≡ words_at words (take n ports)

-- once the next port's word is stored, one word more is gathered
pub gathers_more : (words : List Word) (ranges : List (Option PortRange)) (ports : List ℕ) (own : List Word)
    (n at from port : ℕ) (word : Word)
    → Gathers words ports own n → length words ≡ 32 → AreRanges ranges
    → ports ≡ ranged_ports ranges
    → at ≡ n → from ≡ port → slice_get ports n ≡ Some port
    → Gathers words ports (slice_set own at (get_or words from word)) (n + 1)
gathers_more words ranges ports own n at from port other_word given room ranges_are ports_is at_is from_is is =
    let numbering : IsNumbering ports = subst IsNumbering (sym ports_is) (numbering_in ranges ranges_are) in
    let inside : n < 32 = omega (arith, at-most-32-ports ports numbering, slice_get_within ports n port is) in
    let below : port < 32 =
    subst (λ (p : ℕ). p < 32) (get_or_from_slice_get ports n port port is)
    (numbering.below n port (slice_get_within ports n port is)) in
    let word = get_or words from other_word in
    record {
      room = length-set own at word ∙ given.room;
      front =
          let there : slice_get words port ≡ Some word =
          slice_get-get_or words port other_word (omega (arith, room))
          ∙ ap (λ (p : ℕ). Some (get_or words p other_word)) (sym from_is) in
          ap (λ (a : ℕ). take (n + 1) (slice_set own a word)) at_is
          ∙ take_more_set own n word (omega (arith, given.room))
          ∙ ap (λ ws. ws ++ word ∷ []) given.front ∙ sym (words_more words ports n port word is there);
    }

-- ---- words that say nothing

-- the word of an output that was never set
abbrev pub unused : Word
unused = record { bits = 0 }

unused_at : (n port : ℕ)
    → (slice_get (replicate n unused) port ≡ None) ⊎ (slice_get (replicate n unused) port ≡ Some unused)
unused_at zero port = inl refl
unused_at (suc n) zero = inr refl
unused_at (suc n) (suc port) = unused_at n port

unused_words : (n : ℕ) (ports : List ℕ) → (k : ℕ) × (words_at (replicate n unused) ports ≡ replicate k unused)
unused_words n [] = (0, refl)
unused_words n (port ∷ ports) =
    let (k, rest) = unused_words n ports in
    elim (unused_at n port) [
      | inl none ↦ (k, ap (λ o. cons_option o (words_at (replicate n unused) ports)) none ∙ rest)
      | inr some ↦
          (suc k, ap (λ o. cons_option o (words_at (replicate n unused) ports)) some ∙ ap (λ ws. unused ∷ ws) rest)
    ]

-- a row of them can be taken, whatever the ranges
pub unused_is_plain : (ranges : List (Option PortRange)) → AreRanges ranges → IsPlain (replicate 32 unused) ranges
unused_is_plain ranges given = record {
  ranges_are = given;
  each =
      let (k, is) = unused_words 32 (ranged_ports ranges) in
      subst (All (IsWordOf (ranged_ports ranges))) (sym is)
      (All-replicate (IsWordOf (ranged_ports ranges)) k unused (record { proper = refl; within = tt }));
}

no_connection : (n q : ℕ) → connection_at (replicate n unused) q ≡ None
no_connection zero q = refl
no_connection (suc n) zero = refl
no_connection (suc n) (suc q) = no_connection n q

-- words that were never set say the cleared switch
pub unused_switch : (n : ℕ) → switch_of (replicate n unused) ≡ cleared
unused_switch n =
    same_switch _ _ (λ q. get-switch_of _ q ∙ ap input_of (no_connection n q) ∙ sym (map.get-empty nat_cmp q))
    (λ q. contains-switch_of _ q ∙ ap is_ready (no_connection n q) ∙ sym (set.contains-empty nat_cmp q))

-- the words of any ranges that were never set say the cleared switch
pub unused_is_cleared : (ranges : List (Option PortRange))
    → switch_of (words_at (replicate 32 unused) (ranged_ports ranges)) ≡ cleared
unused_is_cleared ranges = let (k, is) = unused_words 32 (ranged_ports ranges) in ap switch_of is ∙ unused_switch k

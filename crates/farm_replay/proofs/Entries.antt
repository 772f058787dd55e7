-- The entries of a journal, one after another, for `OpenFarm::entries`.
use Rattle.std.proofs.Common.{◌≡◌, ◌≢◌, ◌+◌, ◌<◌, ◌≤◌, ℕ, zero, suc, arith, List, [], ◌∷◌, ◌++◌, Option, Some, None}
use Rattle.std.proofs.Common.{length, take, slice_get, sym, ap, ◌∙◌}
use Rattle.std.specs.Option.{unwrap_or}
use Rattle.std.proofs.lemmas.List.{take_more, take_all}
use Rattle.std.proofs.lemmas.Option.{get_or_from_slice_get, none-some}
use Rattle.domain_core.specs.declared.journal.Entry.{Entry}

-- the first entries and the next one are one more of the first
pub one_more_entry : (journal before after : List Entry) (index : ℕ) (found : Option Entry) (entry : Entry)
    → index < length journal
    → found ≡ slice_get journal index → found ≡ Some entry → before ≡ take index journal → after ≡ before ++ entry ∷ []
    → after ≡ take (index + 1) journal
one_more_entry journal before after index found entry within is at first more =
    more ∙ ap (λ (xs : List Entry). xs ++ entry ∷ []) first
    ∙ ap (λ (x : Entry). take index journal ++ x ∷ [])
    (sym (get_or_from_slice_get journal index entry entry (sym is ∙ at)))
    ∙ sym (take_more journal index entry within)

-- as many as there are, are all
pub all_entries : (found : Option (List Entry)) (journal entries : List Entry) (index : ℕ) → found ≡ Some journal
    → length journal ≤ index → entries ≡ take index journal → entries ≡ unwrap_or found []
all_entries found journal entries index is end so =
    so ∙ take_all index journal end ∙ ap (λ (f : Option (List Entry)). unwrap_or f []) (sym is)

-- at the place of an entry there is one
pub no_entry_behind : (journal entries : List Entry) (index : ℕ) (found : Option Entry) → index < length journal
    → found ≡ slice_get journal index → found ≡ None → entries ≡ take (index + 1) journal
no_entry_behind journal entries index found within is none = absurd (none-some-at journal index within (sym is ∙ none))
  where
    none-some-at : (xs : List Entry) (i : ℕ) → i < length xs → slice_get xs i ≢ None
    none-some-at [] i less none = absurd (omega (arith, less))
    none-some-at (x ∷ xs) zero less none = absurd (none-some x (sym none))
    none-some-at (x ∷ xs) (suc i) less none = none-some-at xs i (omega (arith, less)) none

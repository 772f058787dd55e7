-- The events of a journal, entry by entry: who asked for them, and how many there are. The contracts of
-- `are_rightly_asked` and `all_events`.
use Rattle.std.proofs.Common.{◌≡◌, ℕ, ◌+◌, ◌<◌, List, [], ◌∷◌, ◌++◌, length, take, get_or, sym, ap, ◌∙◌, subst, arith}
use Rattle.std.proofs.lemmas.List.{take_more, length-append}
use Rattle.std.proofs.lemmas.List.Elements.{All-append}
use Rattle.domain_core.specs.declared.journal.Entry.{Entry}
use Rattle.domain_core.specs.Journal.{expanded}
use Rattle.domain_core.specs.Laws.{JournalsAddUp}
use Rattle.farm_service.specs.Commands.{IsRightlyAsked, AreRightlyAsked}

-- ---- who asked

-- the history of one entry more
expanded_more : JournalsAddUp → (journal : List Entry) (i : ℕ) (entry : Entry) → i < length journal
    → expanded (take (i + 1) journal) ≡ expanded (take i journal) ++ expanded (get_or journal i entry ∷ [])
expanded_more law journal i entry within =
    ap expanded (take_more journal i entry within) ∙ law (take i journal) (get_or journal i entry ∷ [])

-- one entry more that is right so
pub more_right : JournalsAddUp → (journal : List Entry) (i : ℕ) (entry : Entry) → i < length journal
    → AreRightlyAsked (expanded (take i journal)) → AreRightlyAsked (expanded (get_or journal i entry ∷ []))
    → AreRightlyAsked (expanded (take (i + 1) journal))
more_right law journal i entry within so_far next =
    subst AreRightlyAsked (sym (expanded_more law journal i entry within))
    (All-append IsRightlyAsked (expanded (take i journal)) (expanded (get_or journal i entry ∷ [])) so_far next)

-- ---- how many there are

-- one entry more
pub more_events : JournalsAddUp → (journal : List Entry) (i events some : ℕ) (entry : Entry) → i < length journal
    → events ≡ length (expanded (take i journal)) → some ≡ length (expanded (get_or journal i entry ∷ []))
    → events + some ≡ length (expanded (take (i + 1) journal))
more_events law journal i events some entry within so_far next =
    omega (
      arith,
      so_far,
      next,
      ap length (expanded_more law journal i entry within),
      length-append (expanded (take i journal)) (expanded (get_or journal i entry ∷ [])),
    )

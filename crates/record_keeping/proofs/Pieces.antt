-- Pieces of a journal, one after another.
use Rattle.std.proofs.Common.{◌≡◌, ◌∙◌, ◌+◌, ℕ, List, [], ◌∷◌, ◌++◌, ap, refl, sym, subst, append-nil}
use Rattle.std.proofs.lemmas.Grind.{flat_map-append}
use Rattle.plan_rules.specs.Data.{DomainData}
use Rattle.domain_core.specs.declared.copying.Mark.{Mark}
use Rattle.domain_core.specs.declared.journal.Entry.{Entry}
use Rattle.domain_core.specs.Laws.{JournalsAddUp}
use Rattle.farm_records.specs.RecordText.{RecordLine, record_line_text, entry_lines, record_text, lines_of}
use Rattle.farm_service.specs.Domains.{GainsCopies}
use Rattle.record_keeping.specs.Counts.{commands_among, saturated}
use Rattle.record_keeping.specs.Pieces.{JournalPiece, entries_of, AreGained, EndWithRoom}
use Rattle.record_keeping.proofs.Counting.{commands_among_both}

-- pieces up to a mark, and pieces from there
pub both_gained : (plan : List DomainData) (number places : ℕ) (from between to : Mark)
    (before later : List JournalPiece) → AreGained plan number places from before between
    → AreGained plan number places between later to
    → AreGained plan number places from (before ++ later) to
both_gained plan number places from between to [] later first second =
    subst (λ (mark : Mark). AreGained plan number places mark later to) first second
both_gained plan number places from between to (piece ∷ before) later first second =
    (first.0, both_gained plan number places piece.reached between to before later first.1 second)

-- if the later ones end with room, all do
pub all_end_with_room : (places : ℕ) (before later : List JournalPiece) → EndWithRoom places later
    → EndWithRoom places (before ++ later)
all_end_with_room places [] later room = room
all_end_with_room places (piece ∷ []) [] room = absurd room
all_end_with_room places (piece ∷ []) (next ∷ later) room = room
all_end_with_room places (piece ∷ next ∷ before) later room = all_end_with_room places (next ∷ before) later room

-- the entries of pieces, and of pieces after them
entries_of_both : (before later : List JournalPiece)
    → entries_of (before ++ later) ≡ entries_of before ++ entries_of later
entries_of_both before later = flat_map-append (λ (piece : JournalPiece). piece.entries) before later

-- the text of pieces, and of pieces after them
pub text_of_both : (before later : List JournalPiece)
    → record_text (lines_of (entries_of (before ++ later)))
    ≡ record_text (lines_of (entries_of before)) ++ record_text (lines_of (entries_of later))
text_of_both before later =
    let lines : lines_of (entries_of (before ++ later))
    ≡ lines_of (entries_of before) ++ lines_of (entries_of later) =
    ap (λ (xs : List Entry). lines_of xs) (entries_of_both before later)
    ∙ flat_map-append entry_lines (entries_of before) (entries_of later) in
    ap (λ (xs : List RecordLine). record_text xs) lines
    ∙ flat_map-append record_line_text (lines_of (entries_of before)) (lines_of (entries_of later))

-- the commands of pieces, and of pieces after them
pub commands_of_both : JournalsAddUp
    → (before later : List JournalPiece)
    → commands_among (entries_of (before ++ later))
    ≡ commands_among (entries_of before) + commands_among (entries_of later)
commands_of_both law before later =
    ap commands_among (entries_of_both before later)
    ∙ commands_among_both law (entries_of before) (entries_of later)

-- the text of one piece
pub text_of_one : (piece : JournalPiece)
    → record_text (lines_of piece.entries) ≡ record_text (lines_of (entries_of (piece ∷ [])))
text_of_one piece = ap (λ (xs : List Entry). record_text (lines_of xs)) (sym (append-nil piece.entries))

-- a count that gained the entries of the room gained one piece, if these are its entries
pub counted_one : (piece : JournalPiece) (room : List Entry) (before old new : ℕ)
    → new ≡ saturated (before + commands_among room) → before ≡ old → room ≡ piece.entries
    → new ≡ saturated (old + commands_among (entries_of (piece ∷ [])))
counted_one piece room before old new counts same held =
    counts ∙ ap (λ (n : ℕ). saturated (n + commands_among room)) same
    ∙ ap (λ (entries : List Entry). saturated (old + commands_among entries)) (held ∙ sym (append-nil piece.entries))

-- what was copied to empty room, which is as much as before
pub one_gained : (plan : List DomainData) (number places : ℕ) (from to : Mark) (held room : ℕ) (old new : List Entry)
    → old ≡ [] → held ≡ 0 → room ≡ places → GainsCopies plan number from to old new held room
    → AreGained plan number places from (record { entries = new; reached = to } ∷ []) to
one_gained plan number places from to held room old new none nothing same copies =
    let emptied = subst (λ (xs : List Entry). GainsCopies plan number from to xs new held room) none copies in
    let held_none = subst (λ (n : ℕ). GainsCopies plan number from to [] new n room) nothing emptied in
    (subst (λ (n : ℕ). GainsCopies plan number from to [] new 0 n) same held_none, refl)

-- The pieces in which a domain's journal is copied. It may grow between two pieces.
use Rattle.std.specs.Prelude.{◌≡◌, ◌<◌, ℕ, Bool, true, false, List, [], ◌∷◌, length, flat_map}
use Rattle.plan_rules.specs.Data.{DomainData}
use Rattle.domain_core.specs.declared.copying.Mark.{Mark}
use Rattle.domain_core.specs.declared.journal.Entry.{Entry}
use Rattle.domain_core.specs.Journal.{expanded}
use Rattle.domain_core.specs.Marks.{StandsIn, events_from}
use Rattle.farm_service.specs.Domains.{GainsCopies}

-- the entries of a piece, and the mark after them
pub record JournalPiece : Type 0 where
  pub entries : List Entry
  pub reached : Mark

-- the entries of all pieces
abbrev pub entries_of : List JournalPiece → List Entry
entries_of pieces = flat_map (λ piece. piece.entries) pieces

-- a domain's journal gained these pieces one after another, from a mark up to another; each was copied where there was
-- room for `places` entries
abbrev pub AreGained : List DomainData → ℕ → ℕ → Mark → List JournalPiece → Mark → Type 0
AreGained plan number places from [] to = to ≡ from
AreGained plan number places from (piece ∷ later) to =
    GainsCopies plan number from piece.reached [] piece.entries 0 places
    × AreGained plan number places piece.reached later to

-- a piece that has entries has fewer than `places`
abbrev pub LeavesRoom : ℕ → JournalPiece → Type 0
LeavesRoom places piece = ¬ (piece.entries ≡ []) → length piece.entries < places

-- there is a last piece, and it leaves room where there are `places` places
abbrev pub EndWithRoom : ℕ → List JournalPiece → Type 0
EndWithRoom places [] = ⊥
EndWithRoom places (piece ∷ []) = LeavesRoom places piece
EndWithRoom places (piece ∷ next ∷ later) = EndWithRoom places (next ∷ later)

-- the mark is before all that a journal has, whatever that is
pub record IsAtStart (mark : Mark) : Type 0 where
  pub all : (journal : List Entry) → events_from mark journal ≡ expanded journal
  pub stands : (journal : List Entry) → StandsIn journal mark

-- pieces begin at a mark; or, if the journal began again, before all that it has
abbrev pub IsBeginning : Bool → Mark → Mark → Type 0
IsBeginning false mark from = from ≡ mark
IsBeginning true mark from = IsAtStart from

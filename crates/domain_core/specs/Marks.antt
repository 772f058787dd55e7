-- How far a journal was copied.
use Rattle.std.specs.Prelude.{ℕ, zero, suc, ◌≤◌, ◌≡◌, List, [], ◌∷◌, ◌++◌, take, drop, length}
use Rattle.domain_core.specs.declared.copying.Mark.{Mark}
use Rattle.domain_core.specs.declared.journal.Entry.{Entry}
use Rattle.domain_core.specs.Journal.{AnsweredCall, expanded}

-- what a journal stands for without this number of entries at its front, and without this number of events of the next
abbrev pub events_behind : ℕ → ℕ → List Entry → List AnsweredCall
events_behind entries events [] = []
events_behind zero events (entry ∷ later) = drop events (expanded (entry ∷ [])) ++ expanded later
events_behind (suc entries) events (entry ∷ later) = events_behind entries events later

-- the events of a journal from a mark on
abbrev pub events_from : Mark → List Entry → List AnsweredCall
events_from mark journal = events_behind mark.entries mark.events journal

-- the mark lies in the journal: its entries aren't past the journal's end, nor its events past that of the next entry
pub record StandsIn (journal : List Entry) (mark : Mark) : Type 0 where
  pub entries : mark.entries ≤ length journal
  pub events : mark.events ≤ length (expanded (take 1 (drop mark.entries journal)))

-- entries were appended to others, and stand for the events of the journal from one mark up to another; the other lies
-- in the journal if the first does
pub record Copies (journal : List Entry) (from to : Mark) (old new : List Entry) : Type 0 where
  pub copied : List Entry
  pub behind : new ≡ old ++ copied
  pub events : events_from from journal ≡ expanded copied ++ events_from to journal
  pub stands : StandsIn journal from → StandsIn journal to

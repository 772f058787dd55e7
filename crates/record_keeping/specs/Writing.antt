-- What becomes of the text of a record, where it is known.
use Rattle.std.specs.Prelude.{◌≡◌, ◌≤◌, ℕ, List, ◌++◌, Bool, true, false, Option, None, Some, IfSome, ⊤}
use Rattle.std.specs.Io.KnownBytes.{Appends}
use Rattle.domain_core.specs.declared.journal.Entry.{Entry}
use Rattle.farm_records.specs.RecordText.{record_text, lines_of}
use Rattle.record_keeping.specs.Counts.{commands_among}

-- a known text gives way to this one
abbrev pub Becomes : Option (List ℕ) → Option (List ℕ) → List ℕ → Type 0
Becomes None after text = ⊤
Becomes (Some was) None text = ⊥
Becomes (Some was) (Some is) text = is ≡ text

-- this text is written after a known one; or, if the record begins again, it is written after the head alone
abbrev pub IsWritten : Bool → List ℕ → Option (List ℕ) → Option (List ℕ) → List ℕ → Type 0
IsWritten false head before after text = Appends before after text
IsWritten true head before after text = Becomes before after (head ++ text)

-- all that a store holds is whole
abbrev pub IsAllWhole : {S : Type 0} → (S → Option (List ℕ)) → (S → Option (List ℕ)) → S → Type 0
IsAllWhole contents whole store = contents store ≡ whole store

-- what is whole of what a store holds is this text alone
abbrev pub IsJust : {S : Type 0} → (S → Option (List ℕ)) → S → List ℕ → Type 0
IsJust whole store text = IfSome (whole store) (λ held. held ≡ text)

-- a record with this head holds the lines of entries, and these have at least this many commands
abbrev pub HoldsCommands : List ℕ → ℕ → List ℕ → Type 0
HoldsCommands head commands text =
    (entries : List Entry) × (text ≡ head ++ record_text (lines_of entries)) × (commands ≤ commands_among entries)

-- What a record holds that gains the lines of entries: the invariant `counted` of `DomainRecord`.
use Rattle.std.proofs.Common.{◌≡◌, ◌∙◌, ◌+◌, ℕ, List, ◌++◌, Option, None, Some, ap, refl, sym, append_assoc, arith}
use Rattle.std.proofs.Math.Logic.{∥∥₁_map}
use Rattle.std.proofs.lemmas.Grind.{flat_map-append}
use Rattle.std.proofs.lemmas.Option.{none-some}
use Rattle.std.specs.Option.{ForSome}
use Rattle.std.specs.Io.KnownBytes.{Appends}
use Rattle.domain_core.specs.declared.journal.Entry.{Entry}
use Rattle.domain_core.specs.Laws.{JournalsAddUp}
use Rattle.farm_records.specs.RecordText.{RecordLine, record_line_text, entry_lines, record_text, lines_of}
use Rattle.record_keeping.specs.Counts.{commands_among, saturated}
use Rattle.record_keeping.specs.Writing.{HoldsCommands}
use Rattle.record_keeping.proofs.Counting.{commands_among_both}

-- the text of entries, and of entries after them
text_of_more : (entries later : List Entry)
    → record_text (lines_of (entries ++ later)) ≡ record_text (lines_of entries) ++ record_text (lines_of later)
text_of_more entries later =
    ap (λ (xs : List RecordLine). record_text xs) (flat_map-append entry_lines entries later)
    ∙ flat_map-append record_line_text (lines_of entries) (lines_of later)

holds_and : JournalsAddUp
    → (before after head : List ℕ) (room : List Entry) (commands new : ℕ)
    → after ≡ before ++ record_text (lines_of room) → new ≡ saturated (commands + commands_among room)
    → HoldsCommands head commands before → HoldsCommands head new after
holds_and law before after head room commands new gained counted (entries, is, few) =
    let more = record_text (lines_of room) in (
      entries ++ room,
      gained ∙ ap (λ text. text ++ more) is ∙ append_assoc head (record_text (lines_of entries)) more
          ∙ ap (λ text. head ++ text) (sym (text_of_more entries room)),
      omega (arith, counted, few, commands_among_both law entries room),
    )

-- a record that gains the lines of entries, and counts their commands, holds as many as it counts
pub holds_more : JournalsAddUp
    → (before after : Option (List ℕ)) (head : List ℕ) (room : List Entry) (commands new : ℕ)
    → (before ≡ None → after ≡ None) → Appends before after (record_text (lines_of room))
    → new ≡ saturated (commands + commands_among room)
    → ForSome before (λ held. ∥ HoldsCommands head commands held ∥₁)
    → ForSome after (λ held. ∥ HoldsCommands head new held ∥₁)
holds_more law None after head room commands new unknown gained counted held text is =
    absurd (none-some text (sym (unknown refl) ∙ is))
holds_more law (Some before) None head room commands new unknown gained counted held text is =
    absurd (none-some text is)
holds_more law (Some before) (Some after) head room commands new unknown gained counted held text is =
    let same : after ≡ text = cc in
    ∥∥₁_map (held before refl) (holds_and law before text head room commands new (sym same ∙ gained) counted)

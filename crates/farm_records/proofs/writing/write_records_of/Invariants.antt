use Rattle.std.proofs.Common.{◌≡◌, ◌++◌, take, string_bytes}
use Rattle.farm_records.specs.RecordText.{record_text, lines_of}
use Rattle.farm_records.proofs.writing.write_records_of.Given as goal

abbrev pub invariant-loop-entry : goal.invariant-loop-entry
invariant-loop-entry l =
    string_bytes l.text ≡ string_bytes l.initial.text ++ record_text (lines_of (take l.entry-index l.entries))

-- What becomes of a record that is replayed.
use Rattle.std.specs.Prelude.{List, Option, Result, IsSomeAnd, IsOkAnd}
use Rattle.domain_core.specs.declared.journal.Entry.{Entry}
use Rattle.record_keeping.specs.declared.domain_record.DomainRecord.{DomainRecord}
use Rattle.record_keeping.specs.Counts.{IsCountBefore}

-- it was taken, and counts the commands of its domain's journal up to the record's mark
abbrev pub IsTakenWith : {S : Type 0} {g : _} {F : Type 0} → Option (Result (DomainRecord S g) F) → List Entry → Type 0
IsTakenWith taken journal =
    IsSomeAnd taken (λ it. IsOkAnd it (λ kept. IsCountBefore journal kept.mark kept.commands))

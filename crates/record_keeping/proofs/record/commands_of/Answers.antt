use Rattle.std.proofs.Common.{◌∷◌, [], ◌∙◌, ap, sym}
use Rattle.domain_core.specs.declared.journal.Entry.{Entry}
use Rattle.record_keeping.specs.Counts.{commands_among}
use Rattle.record_keeping.proofs.Counting.{no_commands}
use Rattle.record_keeping.proofs.record.commands_of.Goals as goal

pub returns-in-Run-clause-commands : goal.returns-in-Run-clause-commands
returns-in-Run-clause-commands c =
    sym
    (ap (λ (e : Entry). commands_among (e ∷ [])) c.in-Run.is
    ∙ no_commands c.in-Run.by c.in-Run.node c.in-Run.count c.in-Run.last)

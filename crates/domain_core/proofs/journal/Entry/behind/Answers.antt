use Rattle.domain_core.proofs.CopiedEntries.{rest_of_run}
use Rattle.std.proofs.Common.{ap, ◌∙◌, ◌∷◌, [], drop}
use Rattle.domain_core.specs.declared.journal.Entry.{Entry}
use Rattle.domain_core.specs.Journal.{expanded}
use Rattle.domain_core.proofs.journal.Entry.behind.Goals as goal

pub returns-in-Run : goal.returns-in-Run
returns-in-Run c =
    ap (λ (e : Entry). drop c.args.events (expanded (e ∷ []))) c.in-Run.is
    ∙ rest_of_run c.in-Run.by c.in-Run.node c.in-Run.count c.args.events c.in-Run.last c.if-events-count.true

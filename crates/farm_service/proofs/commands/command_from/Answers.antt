use Rattle.std.proofs.Common.{ap, ◌∙◌, [], ◌∷◌}
use Rattle.domain_core.specs.declared.journal.Entry.{Entry}
use Rattle.domain_core.specs.Journal.{expanded}
use Rattle.farm_service.specs.Commands.{commands_of}
use Rattle.farm_service.proofs.Listings.{no_steps}
use Rattle.farm_service.proofs.commands.command_from.Goals as goal

pub returns-in-Run : goal.returns-in-Run
returns-in-Run c =
    ap (λ (e : Entry). commands_of c.args.user (expanded (e ∷ []))) c.in-Run.is
    ∙ no_steps c.args.user c.in-Run.by c.in-Run.node c.in-Run.count c.in-Run.last

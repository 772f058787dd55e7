use Rattle.std.proofs.Common.{rules, ◌∙◌, Some, None}
use Rattle.domain_core.specs.Moves.{joining_of}
use Rattle.domain_core.proofs.Outcomes.{held_at, joined_is, copied_one}
use Rattle.domain_core.proofs.moves.copy_at.Goals as goal

pub deliver-requires : goal.deliver-requires
deliver-requires c =
    held_at c.args.part.now c.args.devices.now c.args.table.now c.args.output c.in-Some.device c.requires.joined
    c.requires.nodes c.requires.hosts c.requires.there (search rules)

pub returns-in-Some-clause-state : goal.returns-in-Some-clause-state
returns-in-Some-clause-state c =
    c.deliver.ensures.state
    ∙ copied_one (joining_of c.args.part.now) c.args.packet c.args.outputs c.args.output (Some c.in-Some.device)
    c.args.devices.now (search rules)
    (joined_is c.args.part.now c.args.table.now c.args.output (Some c.in-Some.device) c.requires.joined c.requires.there
    (search rules))

pub returns-in_default-clause-state : goal.returns-in_default-clause-state
returns-in_default-clause-state c =
    copied_one (joining_of c.args.part.now) c.args.packet c.args.outputs c.args.output None c.args.devices.now
    (search rules)
    (joined_is c.args.part.now c.args.table.now c.args.output None c.requires.joined c.requires.there (search rules))

use Rattle.farm_service.proofs.Asked.{asked}
use Rattle.farm_service.proofs.service.ask_planned.Goals as goal

pub returns-clause-answer : goal.returns-clause-answer
returns-clause-answer c =
    asked c.histories_grow.ensures.answer c.args.domain.now c.args.plan.now c.args.number
    (record { by = c.args.by; event = c.args.event }) c.apply.result c.requires
    c.meant_law.ensures.journal c.apply.ensures.called.answer

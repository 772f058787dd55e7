use Rattle.domain_core.proofs.Periods.{none_done, bursts_add}
use Rattle.domain_core.proofs.ticket.Ticket.burst_to_start.Goals as goal

pub loop-tried-init : goal.loop-tried-init
loop-tried-init c = none_done c.args.self.now

pub loop-tried-preserved : goal.loop-tried-preserved
loop-tried-preserved c =
    bursts_add c.steps_add_up.ensures.steps c.steps_add_up.ensures.last c.loop-tried.tried 1 c.args.self.now
    c.loop-tried.self c.burst.new.self c.loop-tried.invariant c.burst.ensures c.stepped_law.ensures

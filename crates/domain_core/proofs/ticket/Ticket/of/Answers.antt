use Rattle.domain_core.proofs.Tickets.{fresh_is_ticket}
use Rattle.domain_core.proofs.ticket.Ticket.of.Goals as goal

pub invariant_of-result : goal.invariant_of-result
invariant_of-result c =
    fresh_is_ticket c.args.domain c.args.number c.args.home.now c.in_ok-start.start c.in_ok-node.node
    c.in_ok-start.ensures.answer c.in_ok-node.ensures.answer

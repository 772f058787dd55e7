use Rattle.std.proofs.Common.{subst}
use Rattle.domain_core.specs.Ticket.{TicketValue, Bursts}
use Rattle.domain_core.proofs.Tickets.{gone_on, ticket_goes_on, ticket_bursts}
use Rattle.domain_core.proofs.ticket.Ticket.burst.Goals as goal

pub invariant_of-self : goal.invariant_of-self
invariant_of-self c =
    let t : TicketValue =
    record {
      domain = c.self.inside.domain;
      number = c.self.inside.number;
      start = c.self.inside.start;
      node = c.self.inside.node;
      steps = c.self.inside.steps;
      last = c.self.inside.last;
    } in
    ticket_goes_on c.steps_add_up.ensures.steps c.steps_add_up.ensures.last t c.burst-steps.new.self
    c.burst-steps.result c.args.n c.at_most-most.result c.later_or-self-inside.result c.self.invariant
    c.burst-steps.ensures.burst c.at_most-most.ensures c.later_or-self-inside.ensures

pub returns : goal.returns
returns c =
    let t : TicketValue =
    record {
      domain = c.self.inside.domain;
      number = c.self.inside.number;
      start = c.self.inside.start;
      node = c.self.inside.node;
      steps = c.self.inside.steps;
      last = c.self.inside.last;
    } in
    subst (λ (before : TicketValue).
    Bursts c.args.n before (gone_on t c.burst-steps.new.self c.burst-steps.result.steps c.later_or-self-inside.result))
    c.self.view_is
    (ticket_bursts t c.burst-steps.new.self c.burst-steps.result c.args.n c.at_most-most.result
    c.later_or-self-inside.result c.self.invariant c.burst-steps.ensures.burst c.at_most-most.ensures
    c.later_or-self-inside.ensures)

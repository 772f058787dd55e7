use Rattle.std.proofs.Common.{rules, ◌≡◌, ◌/◌, ◌*◌, subst}
use Rattle.domain_core.specs.Ticket.{TicketValue, Bursts, most_steps}
use Rattle.domain_core.proofs.Periods.{none_done, counted, counted_is_ticket, counted_bursts, periods_fit}
use Rattle.domain_core.proofs.ticket.Ticket.skip_periods.Goals as goal

pub returns-then-not-is_start_again-clause-bursts : goal.returns-then-not-is_start_again-clause-bursts
returns-then-not-is_start_again-clause-bursts c = none_done c.args.self.now

pub invariant_of-self : goal.invariant_of-self
invariant_of-self c =
    let t : TicketValue =
    record {
      domain = c.self.inside.domain;
      number = c.self.inside.number;
      start = c.self.inside.start;
      node = c.self.inside.node;
      steps = c.self.inside.steps;
      last = c.self.inside.last;
    } in
    let same : t.node ≡ t.start =
    search (rules, c.is_start_again.ensures, c.self.view_is, c.if-not-is_start_again.false) in
    counted_is_ticket c.steps_add_up.ensures.steps c.steps_add_up.ensures.last t (c.at_most-room.result / t.steps)
    c.self.invariant same
    (periods_fit c.args.most c.at_most-room.result t.steps most_steps c.at_most-room.ensures c.self.invariant.most)

pub returns-clause-bursts : goal.returns-clause-bursts
returns-clause-bursts c =
    let t : TicketValue =
    record {
      domain = c.self.inside.domain;
      number = c.self.inside.number;
      start = c.self.inside.start;
      node = c.self.inside.node;
      steps = c.self.inside.steps;
      last = c.self.inside.last;
    } in
    let same : t.node ≡ t.start =
    search (rules, c.is_start_again.ensures, c.self.view_is, c.if-not-is_start_again.false) in
    subst (λ (before : TicketValue).
    Bursts (c.at_most-room.result / t.steps * t.steps) before (counted t (c.at_most-room.result / t.steps * t.steps)))
    c.self.view_is
    (counted_bursts c.steps_add_up.ensures.steps c.steps_add_up.ensures.last t (c.at_most-room.result / t.steps)
    c.self.invariant same)

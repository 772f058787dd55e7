use Rattle.std.proofs.Common.{rules, refl}
use Rattle.domain_core.proofs.Tickets.{fresh_is_ticket}
use Rattle.domain_core.proofs.ticket.Ticket.commit_to.Goals as goal

pub invariant_of-self : goal.invariant_of-self
invariant_of-self c =
    fresh_is_ticket c.self.inside.domain c.self.inside.number c.self.inside.start c.self.inside.start c.swap.new.y refl
    (search rules)

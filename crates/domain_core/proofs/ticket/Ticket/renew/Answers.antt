use Rattle.std.proofs.Common.{rules, ◌≡◌, length}
use Rattle.domain_core.proofs.Tickets.{fresh_is_ticket}
use Rattle.domain_core.proofs.ticket.Ticket.renew.Goals as goal

pub invariant_of-self-2 : goal.invariant_of-self-2
invariant_of-self-2 c =
    let sizes : length c.self.inside.node.memory ≡ length c.self.inside.start.memory =
    search (rules, c.steps_keep_the_size.ensures.several) in
    fresh_is_ticket c.args.domain c.args.number c.args.home.now c.copy_from.new.self c.copy_from-2.new.self
    (search rules) (search (rules, sizes))

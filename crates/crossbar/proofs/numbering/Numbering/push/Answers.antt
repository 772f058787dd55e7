use Rattle.std.proofs.Common.{arith}
use Rattle.crossbar.proofs.Numberings.{room_for, port_below, as_seen, table_pushed_at}
use Rattle.crossbar.proofs.numbering.Numbering.push.Goals as goal

pub bounds-self-inside-from : goal.bounds-self-inside-from
bounds-self-inside-from c =
    omega (arith, c.from.ensures, room_for _ _ _ c.args.port c.self.invariant (as_seen _ _ _ c.self.view_is c.requires))

pub bounds-self-inside-from-2 : goal.bounds-self-inside-from-2
bounds-self-inside-from-2 c = omega (arith, c.from-2.ensures, port_below _ c.args.port c.requires)

pub invariant_of-self : goal.invariant_of-self
invariant_of-self c =
    (table_pushed_at _ _ _ c.args.port _ _ _ c.self.view_is c.from.ensures c.from-2.ensures c.self.invariant
    c.requires).0

pub returns : goal.returns
returns c =
    (table_pushed_at _ _ _ c.args.port _ _ _ c.self.view_is c.from.ensures c.from-2.ensures c.self.invariant
    c.requires).1

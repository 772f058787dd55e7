use Rattle.std.proofs.Common.{refl}
use Rattle.t414_step.specs.Rows.{row}
use Rattle.t414_step.proofs.laws.move_stops_at_the_edge.Goals as goal

pub returns : goal.returns
unfolding row
returns c = record { law = λ s ls m past. rw (c.copies_stop_at_the_edge.ensures.edge s.a m s.c s.b past) refl }

use Rattle.std.proofs.Common.{refl}
use Rattle.link_channels.proofs.laws.messages_stop_at_the_edge.Goals as goal

pub returns : goal.returns
returns c =
    record { edge = λ from to v t ls q m past. rw (c.copies_stop_at_the_edge.ensures.edge t.count m from to past) refl }

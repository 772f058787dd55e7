use Rattle.std.proofs.Common.{refl}
use Rattle.virtual_switch.proofs.perform.answer_message.Goals as goal

pub returns-else-ports_are_below-clause-kept : goal.returns-else-ports_are_below-clause-kept
returns-else-ports_are_below-clause-kept g c =
    record {
      same_ports = refl;
      row = c.count.ensures.row;
      counts = c.unchanged_words_count_nothing.ensures.unchanged _;
    }

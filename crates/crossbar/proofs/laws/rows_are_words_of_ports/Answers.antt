use Rattle.crossbar.proofs.Numberings.{at-most-32-ports}
use Rattle.crossbar.proofs.Switching.{switch_of-connected, switch_of-disconnected, switch_of-all_ready}
use Rattle.crossbar.proofs.Switching.{switch_of-cleared}
use Rattle.crossbar.proofs.PlainRows.{set_row, unused_switch}
use Rattle.crossbar.proofs.laws.rows_are_words_of_ports.Goals as goal

pub returns-clause-few : goal.returns-clause-few
returns-clause-few c = at-most-32-ports

pub returns-clause-set : goal.returns-clause-set
returns-clause-set c = set_row

pub returns-clause-unused : goal.returns-clause-unused
returns-clause-unused c = unused_switch

pub returns-clause-switch : goal.returns-clause-switch
returns-clause-switch c =
    record {
      connects = switch_of-connected;
      disconnects = switch_of-disconnected;
      readies = switch_of-all_ready;
      clears = switch_of-cleared;
    }

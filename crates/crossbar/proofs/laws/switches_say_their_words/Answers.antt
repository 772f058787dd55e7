use Rattle.crossbar.proofs.Below.{get-map_below, contains-set_below, same_switch}
use Rattle.crossbar.proofs.Numberings.{number_among-port, number_among-some, number_among-get}
use Rattle.crossbar.proofs.Lowering.{lowered-cleared, driver_by_word, ready_by_word}
use Rattle.crossbar.proofs.laws.switches_say_their_words.Goals as goal

pub returns-clause-laws : goal.returns-clause-laws
returns-clause-laws c = record {
  pairs = get-map_below;
  ready = contains-set_below;
  same = same_switch;
  number = number_among-port;
  numbered = number_among-some;
  found = number_among-get;
  driver = driver_by_word;
  readiness = ready_by_word;
}

pub returns-clause-cleared : goal.returns-clause-cleared
returns-clause-cleared c = lowered-cleared

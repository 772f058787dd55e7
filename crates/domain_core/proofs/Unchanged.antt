-- Switch words that stay, for `Domain::apply`, `Domain::move_port`
-- and `RunningMachine::act`, if the event leaves the switch.
use Rattle.std.proofs.Common.{List, refl}
use Rattle.std.specs.List.{AllZip}
use Rattle.crossbar.specs.declared.word.Word.{Word}
use Rattle.crossbar.specs.Laws.{UnchangedCountsNothing}
use Rattle.crossbar.specs.Word.{CountsChange}
use Rattle.virtual_switch.specs.Each.{KeepsPorts}
use Rattle.virtual_switch.specs.SwitchValue.{SwitchValue}

-- words that stay count no change
pub counts_itself : UnchangedCountsNothing → (words : List Word) → AllZip CountsChange words words
counts_itself unchanged words = unchanged words

-- a switch that stays keeps its ports, and its words count no change
pub keeps_itself : UnchangedCountsNothing → (switch : SwitchValue) → KeepsPorts switch switch
keeps_itself unchanged switch = record { ports = refl; counts = unchanged switch.words }

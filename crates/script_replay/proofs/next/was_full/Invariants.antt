use Rattle.std.proofs.Common.{◌≡◌, take}
use Rattle.std.specs.List.{list_any}
use Rattle.line_answers.specs.Asks.{had_no_room, write_replies}
use Rattle.script_replay.proofs.next.was_full.Given as goal

abbrev pub invariant-loop-it : goal.invariant-loop-it
invariant-loop-it l = l.was ≡ list_any had_no_room (write_replies (take l.it-index l.told))

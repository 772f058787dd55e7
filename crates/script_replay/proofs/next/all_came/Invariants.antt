use Rattle.std.proofs.Common.{◌≡◌, take}
use Rattle.std.specs.List.{list_all}
use Rattle.line_answers.specs.Asks.{is_byte, read_replies}
use Rattle.script_replay.proofs.next.all_came.Given as goal

abbrev pub invariant-loop-it : goal.invariant-loop-it
invariant-loop-it l = l.all ≡ list_all is_byte (read_replies (take l.it-index l.told))

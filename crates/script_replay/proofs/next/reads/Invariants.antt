use Rattle.std.proofs.Common.{◌≡◌, ◌≤◌, length, take}
use Rattle.line_answers.specs.Asks.{read_replies}
use Rattle.script_replay.proofs.next.reads.Given as goal

abbrev pub invariant-loop-it : goal.invariant-loop-it
invariant-loop-it l = (l.count ≡ length (read_replies (take l.it-index l.told))) × (l.count ≤ l.it-index)

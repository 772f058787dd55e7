use Rattle.std.proofs.Common.{◌≡◌, [], true}
use Rattle.line_answers.specs.Asks.{read_replies}
use Rattle.script_replay.specs.Lines.{AsksOn}
use Rattle.script_replay.proofs.asking.ask_on.Given as goal

abbrev pub invariant-loop : goal.invariant-loop
invariant-loop l =
    AsksOn l.line l.initial.told.items l.told.items l.initial.farm.farm l.farm.farm
    × (l.stops_to_read ≡ true → read_replies l.initial.told.items ≡ [] → read_replies l.told.items ≡ [])

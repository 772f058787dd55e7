use Rattle.std.proofs.Common.{◌≡◌, List, length, map, take, string_bytes}
use Rattle.domain_core.specs.Domain.{DomainValue}
use Rattle.whole_farm.specs.Places.{places_of}
use Rattle.farm_replay.specs.Runs.{IsOpenedFarm}
use Rattle.script_replay.proofs.Chains.{AreLinesUpTo}
use Rattle.script_replay.proofs.answering.answer_asked_lines.Given as goal

abbrev pub invariant-loop-line : goal.invariant-loop-line
invariant-loop-line g l =
    (length l.texts.items ≡ l.line-index)
    × (opened : List DomainValue) × IsOpenedFarm (places_of l.plan) opened
    × AreLinesUpTo (places_of l.plan) opened (take l.line-index l.lines) (map string_bytes l.texts.items) l.farm.farm

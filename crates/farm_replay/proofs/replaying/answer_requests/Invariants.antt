use Rattle.std.proofs.Common.{◌≡◌, length, map, take, string_bytes}
use Rattle.whole_farm.specs.Places.{places_of}
use Rattle.farm_replay.specs.Plain.{asked_by}
use Rattle.farm_replay.proofs.Lines.{AreLinesSoFar}
use Rattle.farm_replay.proofs.replaying.answer_requests.Given as goal

abbrev pub invariant-loop-request : goal.invariant-loop-request
invariant-loop-request g l =
    (length l.lines.items ≡ l.request-index)
    × AreLinesSoFar (places_of l.plan) (map asked_by (take l.request-index l.requests)) (map string_bytes l.lines.items)
    l.farm.farm

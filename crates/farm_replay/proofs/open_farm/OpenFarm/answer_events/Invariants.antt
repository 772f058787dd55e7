use Rattle.std.proofs.Common.{take}
use Rattle.farm_replay.specs.Plain.{event_calls}
use Rattle.farm_replay.specs.Answering.{AnswersCalls}
use Rattle.farm_replay.proofs.open_farm.OpenFarm.answer_events.Given as goal

abbrev pub invariant-loop-event : goal.invariant-loop-event
invariant-loop-event l =
    AnswersCalls (event_calls l.domain l.by (take l.event-index l.events)) l.initial.self.farm l.self.farm
    l.initial.answers l.answers

use Rattle.std.proofs.Common.{[], ◌∷◌}
use Rattle.std.specs.List.{repeat}
use Rattle.farm_replay.specs.Plain.{event_calls}
use Rattle.farm_replay.specs.Answering.{AnswersCalls}
use Rattle.farm_replay.proofs.open_farm.OpenFarm.answer_each.Given as goal

abbrev pub invariant-loop-asked : goal.invariant-loop-asked
invariant-loop-asked l =
    AnswersCalls (repeat l.asked (event_calls l.domain l.by (l.event ∷ []))) l.initial.self.farm l.self.farm
    l.initial.answers l.answers

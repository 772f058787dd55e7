use Rattle.whole_farm.specs.Places.{places_of}
use Rattle.farm_replay.specs.Plain.{asked_once, asked_times}
use Rattle.farm_replay.specs.Answering.{AnswersAsked}
use Rattle.farm_replay.proofs.replaying.answer_times.Given as goal

abbrev pub invariant-loop : goal.invariant-loop
invariant-loop g l =
    AnswersAsked (places_of l.plan) (asked_times l.counter (asked_once l.request.request)) l.initial.farm.farm
    l.farm.farm l.initial.answers l.answers

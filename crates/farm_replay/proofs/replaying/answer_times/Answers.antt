use Rattle.std.proofs.Common.{◌≡◌, [], ◌∷◌, string_bytes, sym, subst}
use Rattle.std.proofs.Math.Nat.{le_antisymm}
use Rattle.whole_farm.specs.Places.{places_of}
use Rattle.farm_replay.specs.Plain.{Asked, Calls, event_calls, asked_once, asked_times}
use Rattle.farm_replay.specs.Answering.{AnswersAsked}
use Rattle.farm_replay.specs.Runs.{ShowsAsked}
use Rattle.farm_replay.proofs.Running.{no_times, times_more, all_times, one_asked}
use Rattle.farm_replay.proofs.replaying.answer_times.Goals as goal

pub loop-init : goal.loop-init
loop-init g c =
    no_times (places_of c.args.plan.now) (asked_once c.args.request.now.request) c.args.farm.now.farm
    c.new-answers.result

pub loop-preserved : goal.loop-preserved
loop-preserved g c =
    times_more c.runs_add_up.ensures.law (places_of c.args.plan.now) (asked_once c.args.request.now.request)
    c.loop.counter c.args.farm.now.farm c.loop.farm.farm c.answer.new.self.farm c.new-answers.result c.loop.answers
    c.answer.new.answers
    c.loop.invariant c.in_ok-answer.ensures.asked

pub returns : goal.returns
returns g c =
    let asked = asked_once c.args.request.now.request in
    let times : c.loop.counter ≡ c.args.request.now.times = le_antisymm c.loop.auto.counter-end c.loop-test.false in
    let answers : AnswersAsked (places_of c.args.plan.now) (asked_times c.args.request.now.times asked)
    c.args.farm.now.farm c.loop.farm.farm c.new-answers.result c.loop.answers =
    subst (λ n.
    AnswersAsked (places_of c.args.plan.now) (asked_times n asked) c.args.farm.now.farm c.loop.farm.farm
    c.new-answers.result c.loop.answers)
    times c.loop.invariant in
    record {
      asked = all_times (places_of c.args.plan.now) asked c.args.request.now.times c.args.farm.now.farm c.loop.farm.farm
          c.new-answers.result c.loop.answers (string_bytes c.in_ok-finish-2.field-0) answers c.new-answers.ensures
          c.in_ok-finish-2.ensures.listing;
    }

pub returns-in-Some : goal.returns-in-Some
returns-in-Some g c =
    let plan = places_of c.args.plan.now in
    let times = c.args.request.now.times in
    let old = c.args.farm.now.farm in
    let new = c.answer_repeated.new.self.farm in
    let calls = event_calls c.in-Some.domain c.in-Some.by (c.in-Some.event ∷ []) in
    let line = string_bytes c.in_ok-finish.field-0 in
    record {
      asked =
          subst (λ (asked : Asked). ShowsAsked plan (asked_times times asked) old new line)
          (sym (one_asked c.args.request.now.request c.in-Some.domain c.in-Some.by c.in-Some.event
          c.in-Some.ensures.event))
          (all_times plan (Calls calls) times old new c.new-answers.result c.answer_repeated.new.answers line
          c.in_ok-answer_repeated.ensures.calls c.new-answers.ensures c.in_ok-finish.ensures.listing);
    }

use Rattle.std.proofs.Common.{◌+◌, [], ◌∷◌, Option, string_bytes, sym, subst}
use Rattle.std.specs.List.{repeat}
use Rattle.domain_core.specs.declared.event.By.{By}
use Rattle.domain_core.specs.declared.event.Event.{Event}
use Rattle.farm_replay.specs.declared.bursts.DoneSteps.{DoneSteps}
use Rattle.farm_replay.specs.Plain.{event_calls}
use Rattle.farm_replay.specs.Answering.{HaveStepped, AnswersCalls}
use Rattle.farm_replay.proofs.Running.{answers_steps}
use Rattle.farm_replay.proofs.open_farm.OpenFarm.answer_burst.Goals as goal

pub returns-clause-calls : goal.returns-clause-calls
returns-clause-calls g c =
    let old = c.args.self.now.farm in
    let new = c.burst.new.farm in
    let before = c.in-Some.field-0.before in
    let stepped =
    subst (λ (done : Option DoneSteps). HaveStepped c.args.domain c.in-Farm-Step.node c.min-most.result done old new)
    c.in-Some.is c.in_ok-before.ensures.steps in
    subst (λ (x : By × Event).
    AnswersCalls (repeat (before + 1) (event_calls c.args.domain x.0 (x.1 ∷ []))) old new c.args.answers.now
    c.push.new.self)
    (λ i. (sym c.in-Farm-Step.is-0 i, sym c.in-Farm-Step.is-1 i))
    (answers_steps c.args.domain c.in-Farm-Step.node before c.in-Some.field-0.last
    (string_bytes c.in_ok-step_answer.field-0) (string_bytes c.in_ok-step_answer-2.field-0) old new c.args.answers.now
    c.push_many.new.self c.push.new.self stepped.1
    c.in_ok-step_answer.ensures.text c.in_ok-step_answer-2.ensures.text c.in_ok-push_many.ensures.kept
    c.in_ok-push.ensures.kept)

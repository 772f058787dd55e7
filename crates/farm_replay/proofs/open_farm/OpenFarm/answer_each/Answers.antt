use Rattle.std.proofs.Common.{◌≡◌, ◌+◌, ◌-◌, ◌<◌, string_bytes, sym, ◌∙◌, arith}
use Rattle.farm_replay.proofs.Running.{on_ok, same_count, answers_nothing, answers_rest, answers_once_more}
use Rattle.farm_replay.proofs.open_farm.OpenFarm.answer_each.Goals as goal

pub loop-asked-init : goal.loop-asked-init
loop-asked-init c = answers_nothing c.args.self.now.farm c.args.answers.now

pub returns-then-eq : goal.returns-then-eq
returns-then-eq c =
    let a = c.args in
    let l = c.loop-asked in
    let sum : l.asked + (a.times - l.asked) ≡ a.times = omega (arith, c.loop-asked-test.true) in
    let some : 0 < a.times - l.asked = omega (arith, c.loop-asked-test.true) in
    let same =
    sym c.recorded_events.ensures
    ∙ same_count c.recorded_events.result c.recorded_events-before.result (sym c.eq.ensures ∙ c.if-eq.true)
    ∙ c.recorded_events-before.ensures in
    record {
      calls = on_ok c.push_many.result
          (λ more.
          answers_rest c.runs_add_up.ensures.law a.self.now.farm l.self.farm c.answer_event.new.self.farm a.answers.now
          l.answers c.push_many.new.self (a.domain, record { by = a.by; event = a.event }) l.asked (a.times - l.asked)
          a.times
          (string_bytes c.in_ok-answer.answer) sum some l.invariant c.in_ok-answer.ensures.call
          (c.in_ok-answer.ensures.unrecorded same) more)
          c.push_many.ensures.kept;
    }

pub loop-asked-preserved : goal.loop-asked-preserved
loop-asked-preserved c =
    let a = c.args in
    let l = c.loop-asked in
    answers_once_more c.runs_add_up.ensures.law a.self.now.farm l.self.farm c.answer_event.new.self.farm a.answers.now
    l.answers c.push.new.self (a.domain, record { by = a.by; event = a.event }) l.asked
    (string_bytes c.in_ok-answer.answer) l.invariant c.in_ok-answer.ensures.call c.in_ok-push.ensures.kept

use Rattle.std.proofs.Common.{◌≡◌, ◌+◌, ◌-◌, [], ◌∷◌, arith}
use Rattle.farm_replay.specs.Plain.{event_calls}
use Rattle.farm_replay.proofs.Running.{answers_both}
use Rattle.farm_replay.proofs.open_farm.OpenFarm.answer_repeated.Goals as goal

pub returns : goal.returns
returns g c =
    let a = c.args in
    let done = c.in_ok-done.done in
    let sum : done + (a.times - done) ≡ a.times = omega (arith, c.in_ok-done.ensures.most) in
    record {
      calls =
          answers_both c.runs_add_up.ensures.law a.self.now.farm c.answer_burst.new.self.farm
          c.answer_each.new.self.farm
          a.answers.now c.answer_burst.new.answers c.answer_each.new.answers (event_calls a.domain a.by (a.event ∷ []))
          done
          (a.times - done) a.times sum c.in_ok-done.ensures.calls c.in_ok-answer_each.ensures.calls;
    }

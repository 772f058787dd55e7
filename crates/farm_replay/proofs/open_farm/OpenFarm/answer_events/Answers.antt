use Rattle.farm_replay.proofs.Running.{events_more, answers_call}
use Rattle.farm_replay.proofs.open_farm.OpenFarm.answer_events.Goals as goal

pub loop-event-preserved : goal.loop-event-preserved
loop-event-preserved c =
    let a = c.args in
    let l = c.loop-event in
    events_more c.runs_add_up.ensures.law a.self.now.farm l.self.farm c.answer_event.new.self.farm a.answers.now
    l.answers c.push.new.self a.domain a.by a.events.now l.event-index _ c.loop-event-test.true l.invariant
    (answers_call _ l.self.farm c.answer_event.new.self.farm _ l.answers c.push.new.self
    c.in_ok-answer_event.ensures.call c.in_ok-push.ensures.kept)

use Rattle.std.proofs.Common.{◌≡◌, ◌<◌, ◌≤◌, arith, length}
use Rattle.std.proofs.lemmas.List.{length-map}
use Rattle.record_following.specs.declared.line.RecordedLine.{RecordedLine}
use Rattle.record_following.specs.RecordCursor.{said_by}
use Rattle.record_following.proofs.Led.{led}
use Rattle.record_following.proofs.cursor.RecordCursor.lead.Goals as goal
use Rattle.record_following.proofs.cursor.RecordCursor.lead.Goals.{then-loop-self-test+else-recorded_events-event}
use Rattle.record_following.proofs.cursor.RecordCursor.lead.Goals.{else-loop-self-test}

pub returns-clause-there : goal.returns-clause-there
returns-clause-there c = λ plan was.
    let same : length (said_by c.args.lines.now) ≡ length c.args.lines.now =
    length-map c.args.lines.now (λ (line : RecordedLine). line.call) in
    let end : c.loop-self.self.replayed.recorded < c.args.event
    → length (said_by c.args.lines.now) ≤ c.loop-self.self.next =
    elim c.loop-self-test.branch as
    (λ b. c.loop-self.self.replayed.recorded < c.args.event
    → length (said_by c.args.lines.now) ≤ c.loop-self.self.next) [
      | then-loop-self-test+else-recorded_events-event w ↦
          λ before. omega (arith, w.if-recorded_events-event, w.recorded_events, before)
      | else-loop-self-test w ↦ λ before. omega (arith, w.loop-self-test, same)
    ] in
    led plan (said_by c.args.lines.now) c.loop-self.self c.args.event (c.loop-self.invariant.cursor plan was)
    c.loop-self.invariant.within c.loop-self.invariant.stops end

use Rattle.std.proofs.Common.{List, subst}
use Rattle.record_following.specs.declared.line.RecordedLine.{RecordedLine}
use Rattle.record_following.specs.declared.cursor.RecordCursor.{RecordCursor}
use Rattle.record_following.specs.RecordCursor.{said_by}
use Rattle.record_following.specs.RecordCursor.{GoesOnIn, ComesTo}
use Rattle.lab_timeline.specs.Advance.{IsOfKept}
use Rattle.lab_timeline.proofs.Led.{led_on, come_to}
use Rattle.lab_timeline.proofs.timeline.Timeline.go.Goals as goal

pub invariant_of-self-2 : goal.invariant_of-self-2
invariant_of-self-2 c =
    let near : IsOfKept c.self.inside.opening c.self.inside.kept.items c.nearest-near.result.now =
    subst (λ (kept : List RecordCursor). IsOfKept c.self.inside.opening kept c.nearest-near.result.now)
    c.as_slice.ensures.value c.nearest-near.ensures.cursor in
    let goes : GoesOnIn (said_by c.self.inside.lines.items) c.begin.new.here c.lead.new.self =
    subst (λ (lines : List RecordedLine). GoesOnIn (said_by lines) c.begin.new.here c.lead.new.self)
    c.as_slice-2.ensures.value c.in_ok-lead.ensures.cursor in
    led_on c.self.inside.plan (said_by c.self.inside.lines.items) c.self.inside.opening c.self.inside.kept.items
    c.self.inside.is_led c.self.inside.here c.nearest-near.result.now c.begin.new.here c.lead.new.self c.self.invariant
    near c.in_ok-begin.ensures.cursor goes

pub returns-clause-state : goal.returns-clause-state
returns-clause-state c =
    let near : IsOfKept c.self.inside.opening c.self.inside.kept.items c.nearest-near.result.now =
    subst (λ (kept : List RecordCursor). IsOfKept c.self.inside.opening kept c.nearest-near.result.now)
    c.as_slice.ensures.value c.nearest-near.ensures.cursor in
    let comes : ComesTo (said_by c.self.inside.lines.items) c.args.event c.begin.new.here c.lead.new.self =
    subst (λ (lines : List RecordedLine). ComesTo (said_by lines) c.args.event c.begin.new.here c.lead.new.self)
    c.as_slice-2.ensures.value c.in_ok-lead.ensures.there in
    come_to c.self.inside.plan (said_by c.self.inside.lines.items) c.self.inside.opening c.self.inside.kept.items
    c.self.inside.is_led c.self.inside.here c.nearest-near.result.now c.begin.new.here c.lead.new.self c.args.event
    c.self.invariant near c.in_ok-begin.ensures.cursor comes

use Rattle.std.proofs.Common.{◌≡◌, ◌≤◌, arith, length}
use Rattle.std.proofs.lemmas.List.{length-map}
use Rattle.record_following.specs.declared.line.RecordedLine.{RecordedLine}
use Rattle.record_following.specs.RecordCursor.{said_by}
use Rattle.lab_timeline.proofs.timeline.Keeping.do_lines.Goals as goal

pub returns-clause-end : goal.returns-clause-end
returns-clause-end g c =
    let l = c.loop-here in
    let lines = said_by c.args.lines.now in
    let same : length lines ≡ length c.args.lines.now =
    length-map c.args.lines.now (λ (line : RecordedLine). line.call) in
    let end : length lines ≤ l.here.next = omega (arith, c.loop-here-test.false, same) in
    c.cursor_ends.ensures.law c.args.plan.now lines l.here l.invariant.cursor l.invariant.rest end

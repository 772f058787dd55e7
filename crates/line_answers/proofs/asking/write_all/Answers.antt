use Rattle.std.proofs.Common.{rules, subst, ℕ}
use Rattle.line_answers.proofs.Exchange.{IsWriting, write_more, write_full, write_ended, write_refused}
use Rattle.line_answers.proofs.asking.write_all.Goals as goal

pub returns-then-had_no_room : goal.returns-then-had_no_room
returns-then-had_no_room g c =
    write_full c.args.host c.args.bytes.now c.args.session.now c.loop-byte.session c.write.new.self
    c.loop-byte.byte-index c.in_ok-write.field-0 tt c.loop-byte.invariant c.loop-byte-test.true
    c.in_ok-write.ensures.list (search rules)

pub loop-byte-preserved : goal.loop-byte-preserved
loop-byte-preserved g c =
    write_more c.args.host c.args.bytes.now c.args.session.now c.loop-byte.session c.write.new.self
    c.loop-byte.byte-index c.in_ok-write.field-0 c.loop-byte.invariant c.loop-byte-test.true
    c.in_ok-write.ensures.list (search rules)

pub returns : goal.returns
returns g c =
    write_ended c.args.host c.args.bytes.now c.args.session.now c.loop-byte.session tt
    (subst (λ (i : ℕ). IsWriting c.args.host c.args.bytes.now c.args.session.now c.loop-byte.session i) (search rules)
    c.loop-byte.invariant)

pub returns-in_err-write : goal.returns-in_err-write
returns-in_err-write g c =
    write_refused c.args.host c.args.bytes.now c.args.session.now c.loop-byte.session c.write.new.self
    c.loop-byte.byte-index c.in_err-write.field-0.0 c.from_residual.result c.loop-byte.invariant c.loop-byte-test.true
    c.in_err-write.ensures.list c.in_err-write.ensures.answer c.from_residual.ensures.1

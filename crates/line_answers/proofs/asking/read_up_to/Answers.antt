use Rattle.std.proofs.Common.{rules, subst, ℕ}
use Rattle.line_answers.proofs.Exchange.{IsReading, read_more, read_none, read_ended, read_refused}
use Rattle.line_answers.proofs.asking.read_up_to.Goals as goal

pub returns-then-not-is_byte : goal.returns-then-not-is_byte
returns-then-not-is_byte g c =
    read_none c.args.host c.args.count c.args.session.now c.loop-index.session c.read.new.self c.loop-index._index
    c.in_ok-read.field-0 tt c.loop-index.invariant c.loop-index-test.true
    c.in_ok-read.ensures.list (search rules)

pub loop-index-preserved : goal.loop-index-preserved
loop-index-preserved g c =
    read_more c.args.host c.args.count c.args.session.now c.loop-index.session c.read.new.self c.loop-index._index
    c.in_ok-read.field-0 c.loop-index.invariant c.loop-index-test.true
    c.in_ok-read.ensures.list (search rules)

pub returns : goal.returns
returns g c =
    read_ended c.args.host c.args.count c.args.session.now c.loop-index.session tt
    (subst (λ (i : ℕ). IsReading c.args.host c.args.count c.args.session.now c.loop-index.session i) (search rules)
    c.loop-index.invariant)

pub returns-in_err-read : goal.returns-in_err-read
returns-in_err-read g c =
    read_refused c.args.host c.args.count c.args.session.now c.loop-index.session c.read.new.self c.loop-index._index
    c.in_err-read.field-0.0 c.from_residual.result c.loop-index.invariant c.loop-index-test.true
    c.in_err-read.ensures.list c.in_err-read.ensures.answer c.from_residual.ensures.1

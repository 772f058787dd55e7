use Rattle.std.proofs.Common.{rules, subst, ℕ}
use Rattle.line_answers.proofs.Exchange.{IsConfiguring, config_more, config_ended, config_refused}
use Rattle.line_answers.proofs.asking.configure_all.Goals as goal

pub loop-byte-preserved : goal.loop-byte-preserved
loop-byte-preserved g c =
    config_more c.args.bytes.now c.args.session.now c.loop-byte.session c.configure.new.self c.loop-byte.byte-index
    c.in_ok-configure.field-0 c.loop-byte.invariant c.loop-byte-test.true c.in_ok-configure.ensures.list

pub returns : goal.returns
returns g c =
    config_ended c.args.bytes.now c.args.session.now c.loop-byte.session tt
    (subst (λ (i : ℕ). IsConfiguring c.args.bytes.now c.args.session.now c.loop-byte.session i) (search rules)
    c.loop-byte.invariant)

pub returns-in_err-configure : goal.returns-in_err-configure
returns-in_err-configure g c =
    config_refused c.args.bytes.now c.args.session.now c.loop-byte.session c.configure.new.self c.loop-byte.byte-index
    c.in_err-configure.field-0.0 c.from_residual.result c.loop-byte.invariant c.loop-byte-test.true
    c.in_err-configure.ensures.list c.in_err-configure.ensures.answer c.from_residual.ensures.1

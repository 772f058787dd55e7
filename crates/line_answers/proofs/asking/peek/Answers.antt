use Rattle.std.proofs.Common.{subst}
use Rattle.farm_service.specs.Passes.{SessionValue}
use Rattle.line_answers.specs.Asks.{next_read}
use Rattle.line_answers.specs.Sessions.{AsksJust}
use Rattle.line_answers.proofs.Lines.{unwritten, unsettled, settled}
use Rattle.line_answers.proofs.asking.peek.Goals as goal

pub returns-in_err-write_all : goal.returns-in_err-write_all
returns-in_err-write_all g c =
    unwritten c.args.host c.args.address c.peek_message.result c.args.session.now c.write_all.new.session
    c.write_all.result c.from_residual.result c.in_err-write_all.field-0.0 c.peek_message.ensures.answer
    c.in_err-write_all.was c.from_residual.ensures.1 c.write_all.ensures

pub returns-in_err-settle_to_read : goal.returns-in_err-settle_to_read
returns-in_err-settle_to_read g c =
    unsettled c.args.host c.args.address c.peek_message.result c.args.session.now c.write_all.new.session
    c.settle_to_read.new.session c.in_ok-write_all.field-0 c.write_all.result
    c.from_residual-in_err-settle_to_read.result c.in_err-settle_to_read.field-0.0 c.peek_message.ensures.answer
    c.in_ok-write_all.was c.from_residual-in_err-settle_to_read.ensures.1 c.write_all.ensures
    c.in_err-settle_to_read.ensures

pub returns : goal.returns
returns g c =
    settled c.args.host c.args.address c.peek_message.result c.args.session.now c.write_all.new.session
    c.read_up_to.new.session c.in_ok-write_all.field-0 c.write_all.result c.read_up_to.result
    c.peek_message.ensures.answer c.in_ok-write_all.was c.write_all.ensures
    (subst (λ (v : SessionValue).
    AsksJust {A = Unit {0}} (next_read c.args.host 4) v c.read_up_to.result c.read_up_to.new.session)
    c.in_ok-settle_to_read.ensures c.read_up_to.ensures)

use Rattle.std.proofs.Common.{List, ℕ, ◌∙◌, subst}
use Rattle.std.specs.Prelude.{Err}
use Rattle.bootstrap.specs.declared.messages.BootFault.{BootFault}
use Rattle.bootstrap.specs.declared.messages.BootFault.TheVariants.{NoMemory}
use Rattle.bootstrap.specs.Messages.{booted}
use Rattle.line_answers.specs.Asks.{next_write}
use Rattle.line_answers.specs.Sessions.{AsksJust}
use Rattle.line_answers.proofs.Lines.{code_written, code_refused}
use Rattle.line_answers.proofs.asking.boot.Goals as goal

pub returns-in-Ok : goal.returns-in-Ok
returns-in-Ok g c =
    code_written c.args.host c.args.code.now c.args.session.now c.write_all.new.session c.write_all.result
    c.in-Ok.ensures.answer.1.0 c.in-Ok.ensures.answer.1.1
    (subst (λ (bytes : List ℕ).
    AsksJust {A = Unit {0}} (next_write c.args.host bytes) c.args.session.now c.write_all.result
    c.write_all.new.session)
    (c.as_slice.ensures.value ∙ c.in-Ok.ensures.answer.0) c.write_all.ensures)

pub returns-in-Err-NoMemory : goal.returns-in-Err-NoMemory
returns-in-Err-NoMemory g c =
    let fits : booted (Err NoMemory) c.args.code.now =
    subst (λ (fault : BootFault). booted (Err fault) c.args.code.now) c.in-Err-NoMemory.field-0-is
    c.in-Err-NoMemory.ensures.answer in
    code_refused c.args.host c.args.code.now c.args.session.now fits.0 fits.1

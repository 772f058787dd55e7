use Rattle.std.proofs.Common.{Result, Ok, Err, IfOk}
use Rattle.occam_code.proofs.Behaved.{program_behaves}
use Rattle.occam_code.proofs.emission.emit_program.Goals as goal

if_ok : {T E : Type 0} {P Q : T → Type 0} (r : Result T E) → ((x : T) → P x → Q x) → IfOk r P → IfOk r Q
if_ok (Ok x) then_so is = then_so x is
if_ok (Err e) then_so is = tt

pub returns-clause-behaves : goal.returns-clause-behaves
returns-clause-behaves c sequential =
    if_ok c.emit_whole.result
    (λ e is. program_behaves c.args.variables c.args.tables.now c.args.p.now e.statements.items is sequential)
    c.emit_whole.ensures.code

use Rattle.std.proofs.Common.{Result, Ok, Err, OnOk}
use Rattle.occam_code.proofs.Running.{gives_value}
use Rattle.occam_code.proofs.expressions.emit_expression.Goals as goal

on_ok_both : {T E P Q R : Type 0} (r : Result T E) → (P → Q → R) → OnOk r P → OnOk r Q → OnOk r R
on_ok_both (Ok x) f left right = f left right
on_ok_both (Err e) f left right = tt

pub returns-clause-gives : goal.returns-clause-gives
returns-clause-gives c =
    on_ok_both c.put_expression.result (gives_value c.args.code.now.items _ c.args.words c.args.e.now)
    c.put_expression.ensures.code c.put_expression.ensures.words

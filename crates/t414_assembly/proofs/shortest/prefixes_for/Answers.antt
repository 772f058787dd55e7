use Rattle.std.proofs.Common.{refl, arith, ◌∙◌, lit<}
use Rattle.t414_assembly.proofs.Usual.{none_of, positive_of, negative_of}
use Rattle.t414_assembly.proofs.Reaching.{positive, negative, fewest}
use Rattle.t414_assembly.proofs.shortest.prefixes_for.Goals as goal

pub returns-then-operand-lt2147483648-clause-fewest : goal.returns-then-operand-lt2147483648-clause-fewest
returns-then-operand-lt2147483648-clause-fewest c = λ n reached.
    fewest c.args.operand _ _ n (omega arith) (positive c.args.operand _ (omega arith) refl)
    c.prefixes.ensures.fewest reached

pub returns-else-operand-lt2147483648-clause-fewest : goal.returns-else-operand-lt2147483648-clause-fewest
returns-else-operand-lt2147483648-clause-fewest c = λ n reached.
    fewest c.args.operand _ _ n (omega arith) (negative c.args.operand _ c.ranges.operand.fits (omega arith) refl)
    c.prefixes-else-operand-lt2147483648.ensures.fewest reached

pub returns-then-operand-lt16-clause-usual : goal.returns-then-operand-lt16-clause-usual
returns-then-operand-lt16-clause-usual c = c.empty.ensures ∙ none_of c.args.operand c.if-operand-lt16.true

pub returns-then-operand-lt2147483648-clause-usual : goal.returns-then-operand-lt2147483648-clause-usual
returns-then-operand-lt2147483648-clause-usual c =
    c.prefixes.ensures.usual 7 (omega arith) (lit< tt)
    ∙ positive_of c.args.operand c.if-operand-lt16.false c.if-operand-lt2147483648.true

pub returns-else-operand-lt2147483648-clause-usual : goal.returns-else-operand-lt2147483648-clause-usual
returns-else-operand-lt2147483648-clause-usual c =
    c.prefixes-else-operand-lt2147483648.ensures.usual 7 (omega (arith, c.if-operand-lt2147483648.false)) (lit< tt)
    ∙ negative_of c.args.operand c.if-operand-lt2147483648.false

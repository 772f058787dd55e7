use Rattle.std.proofs.Common.{◌<◌, ◌∙◌, ap, sym, subst, length, arith}
use Rattle.crossbar.specs.Row.{Row, IsWordOf}
use Rattle.crossbar.specs.Changed.{row_with}
use Rattle.crossbar.proofs.PlainRows.{plain_set, front_set}
use Rattle.crossbar.proofs.plain.PlainOutputsOutputs.write.Goals as goal

pub invariant_of-self : goal.invariant_of-self
invariant_of-self c =
    let inside : c.args.number < length c.self.inside.numbering =
    omega (arith, c.requires.number, ap (λ (r : Row). length r.ports) c.self.view_is) in
    let proper = subst (λ (r : Row). IsWordOf r.ports c.args.word) (sym c.self.view_is) c.requires.word in
    plain_set c.self.inside.numbering _ c.args.number _ c.args.word c.self.invariant c.from.ensures inside proper

pub returns-clause-words : goal.returns-clause-words
returns-clause-words c =
    let inside : c.args.number < length c.self.inside.numbering =
    omega (arith, c.requires.number, ap (λ (r : Row). length r.ports) c.self.view_is) in
    let words = front_set c.self.inside.numbering _ c.args.number _ c.args.word c.from.ensures inside in
    (λ i. record { ports = c.self.inside.numbering; words = words i })
    ∙ ap (λ r. row_with r c.args.number c.args.word) c.self.view_is

pub returns-clause-row : goal.returns-clause-row
returns-clause-row c =
    let inside : c.args.number < length c.self.inside.numbering =
    omega (arith, c.requires.number, ap (λ (r : Row). length r.ports) c.self.view_is) in
    let proper = subst (λ (r : Row). IsWordOf r.ports c.args.word) (sym c.self.view_is) c.requires.word in
    (plain_set c.self.inside.numbering _ c.args.number _ c.args.word c.self.invariant c.from.ensures inside proper).row

use Rattle.std.proofs.Common.{rules, ◌≡◌, sym, ◌∙◌, ap, subst}
use Rattle.std.proofs.lemmas.Bool.Decides.{Decides-eqb, not_from_Decides}
use Rattle.std.proofs.lemmas.Slice.Eq.{slice_eq-Decides}
use Rattle.plan_rules.proofs.UserLemmas.{has_name, others_have_other_names, nobody_in}
use Rattle.plan_rules.proofs.users.user_in.Goals as goal

pub returns-then-eq : goal.returns-then-eq
returns-then-eq c =
    let decides = slice_eq-Decides Decides-eqb _ _ _ c.eq.ensures in
    has_name _ c.args.name.now c.name.result.now c.loop-user.user (search rules) c.name.ensures
    (sym c.as_bytes.ensures.value ∙ decides.0 c.if-eq.true)

pub loop-user-preserved : goal.loop-user-preserved
loop-user-preserved c =
    let decides = slice_eq-Decides Decides-eqb _ _ _ c.eq.ensures in
    others_have_other_names _ c.args.name.now c.name.result.now c.loop-user.user c.loop-user.invariant c.name.ensures
    (λ same. not_from_Decides _ decides c.if-eq.false (c.as_bytes.ensures.value ∙ same))

pub returns : goal.returns
returns c =
    nobody_in _ c.args.name.now c.users-user-end.result c.loop-user.user c.users-user-end.ensures
    c.loop-user-test.false c.loop-user.invariant

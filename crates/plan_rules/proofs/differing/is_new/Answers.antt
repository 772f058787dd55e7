use Rattle.std.proofs.Common.{refl}
use Rattle.std.proofs.lemmas.Bool.{false≢true, iff_false}
use Rattle.std.proofs.lemmas.List.{take_all}
use Rattle.plan_rules.proofs.ListLemmas.{all_more, all_at}
use Rattle.plan_rules.proofs.differing.is_new.Goals as goal

pub returns-then-not-is_different : goal.returns-then-not-is_different
returns-then-not-is_different g c = (
  λ h. absurd (false≢true h),
  λ all.
      absurd (iff_false c.is_different.ensures c.if-not-is_different.true
      (all_at (λ x. g.T.Differs.differs_from x c.args.item.now) c.args.earlier.now c.loop-x.x-index c.x-item.result
      c.loop-x-test.true c.x-item.is all)),
)

pub loop-x-preserved : goal.loop-x-preserved
loop-x-preserved g c =
    all_more (λ x. g.T.Differs.differs_from x c.args.item.now) c.args.earlier.now c.loop-x.x-index c.x-item.result
    c.loop-x-test.true c.x-item.is c.loop-x.invariant (c.is_different.ensures.0 c.if-not-is_different.false)

pub returns : goal.returns
returns g c =
    let whole = take_all c.loop-x.x-index c.args.earlier.now c.loop-x-test.false in
    (λ _. rw whole at c.loop-x.invariant, λ _. refl)

use Rattle.std.proofs.Common.{refl, All}
use Rattle.std.proofs.lemmas.Bool.{false≢true, iff_false}
use Rattle.std.proofs.lemmas.List.{take_all}
use Rattle.plan_rules.proofs.ListLemmas.{all_more, all_at}
use Rattle.plan_rules.proofs.differing.are_new.Goals as goal

pub returns-then-not-is_new : goal.returns-then-not-is_new
returns-then-not-is_new g c = (
  λ h. absurd (false≢true h),
  λ all.
      absurd (iff_false c.is_new.ensures c.if-not-is_new.true
      (all_at (λ y. All (λ x. g.T.Differs.differs_from x y) c.args.earlier.now)
      c.args.items.now c.loop-item.item-index c.item-item.result c.loop-item-test.true c.item-item.is all)),
)

pub loop-item-preserved : goal.loop-item-preserved
loop-item-preserved g c =
    all_more (λ y. All (λ x. g.T.Differs.differs_from x y) c.args.earlier.now)
    c.args.items.now c.loop-item.item-index c.item-item.result c.loop-item-test.true c.item-item.is
    c.loop-item.invariant (c.is_new.ensures.0 c.if-not-is_new.false)

pub returns : goal.returns
returns g c =
    let whole = take_all c.loop-item.item-index c.args.items.now c.loop-item-test.false in
    (λ _. rw whole at c.loop-item.invariant, λ _. refl)

use Rattle.std.proofs.Common.{refl, All}
use Rattle.std.proofs.lemmas.Bool.{false≢true, iff_false}
use Rattle.std.proofs.lemmas.List.{take_all}
use Rattle.plan_rules.proofs.ListLemmas.{all_more, all_at}
use Rattle.plan_rules.proofs.differing.are_new_after.Goals as goal

pub returns-then-not-are_new : goal.returns-then-not-are_new
returns-then-not-are_new g c = (
  λ h. absurd (false≢true h),
  λ all.
      absurd (iff_false (rw c.list_of.ensures at c.are_new.ensures) c.if-not-are_new.true
      (all_at (λ d. All (λ y. All (λ x. g.T.Differs.differs_from x y) (g.T.PartOfDomain.list d)) c.args.items.now)
      c.args.earlier.now c.loop-domain.domain-index c.domain-item.result c.loop-domain-test.true c.domain-item.is all)),
)

pub loop-domain-preserved : goal.loop-domain-preserved
loop-domain-preserved g c =
    all_more (λ d. All (λ y. All (λ x. g.T.Differs.differs_from x y) (g.T.PartOfDomain.list d)) c.args.items.now)
    c.args.earlier.now c.loop-domain.domain-index c.domain-item.result c.loop-domain-test.true c.domain-item.is
    c.loop-domain.invariant ((rw c.list_of.ensures at c.are_new.ensures).0 c.if-not-are_new.false)

pub returns : goal.returns
returns g c =
    let whole = take_all c.loop-domain.domain-index c.args.earlier.now c.loop-domain-test.false in
    (λ _. rw whole at c.loop-domain.invariant, λ _. refl)

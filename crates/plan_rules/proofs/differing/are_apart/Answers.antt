use Rattle.std.proofs.Common.{refl, arith, rules}
use Rattle.std.proofs.lemmas.Bool.{false≢true, iff_false}
use Rattle.std.proofs.lemmas.List.{take_all}
use Rattle.plan_rules.proofs.ListLemmas.{pairs_more, pairs_at}
use Rattle.plan_rules.proofs.differing.are_apart.Goals as goal

pub returns-then-not-is_new : goal.returns-then-not-is_new
returns-then-not-is_new g c = (
  λ h. absurd (false≢true h),
  λ all.
      absurd (iff_false c.is_new.ensures (search rules)
      (pairs_at g.T.Differs.differs_from _ c.loop-i.i c.index-items-i.result (omega arith) c.index-items-i.is all)),
)

pub loop-i-preserved : goal.loop-i-preserved
loop-i-preserved g c =
    pairs_more g.T.Differs.differs_from _ c.loop-i.i c.index-items-i.result (omega arith) c.index-items-i.is
    c.loop-i.invariant (c.is_new.ensures.0 (search rules))

pub returns : goal.returns
returns g c =
    let whole = take_all c.loop-i.i c.args.items.now (omega arith) in (λ _. rw whole at c.loop-i.invariant, λ _. refl)

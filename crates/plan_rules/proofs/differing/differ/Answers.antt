use Rattle.std.proofs.Common.{refl, arith, rules}
use Rattle.std.proofs.lemmas.Bool.{false≢true, iff_false}
use Rattle.std.proofs.lemmas.List.{take_all}
use Rattle.plan_rules.proofs.ListLemmas.{lists_more, lists_at}
use Rattle.plan_rules.proofs.differing.differ.Goals as goal
use Rattle.plan_rules.proofs.differing.differ.Goals.{then-not-are_apart-via-then-not-are_apart}
use Rattle.plan_rules.proofs.differing.differ.Goals.{then-not-are_apart-via-else-not-are_apart+then-not-are_new_after}

pub returns-then-not-are_apart : goal.returns-then-not-are_apart
returns-then-not-are_apart g c =
    let same = c.list_of-items.ensures in (
      λ h. absurd (false≢true h),
      λ all.
          let parts =
          lists_at g.T.Differs.differs_from g.T.PartOfDomain.list c.args.domains.now c.loop-i.i c.index-domains-i.result
          (omega arith) c.index-domains-i.is all in
          elim c.then-not-are_apart.branch [
            | then-not-are_apart-via-then-not-are_apart w ↦
                absurd (iff_false (rw same at c.are_apart.ensures) (search rules) parts.0)
            | then-not-are_apart-via-else-not-are_apart+then-not-are_new_after w ↦
                absurd (iff_false (rw same at w.are_new_after.ensures) (search rules) parts.1)
          ],
    )

pub loop-i-preserved : goal.loop-i-preserved
loop-i-preserved g c =
    let same = c.list_of-items.ensures in
    lists_more g.T.Differs.differs_from g.T.PartOfDomain.list c.args.domains.now c.loop-i.i c.index-domains-i.result
    (omega arith) c.index-domains-i.is c.loop-i.invariant
    ((rw same at c.are_apart.ensures).0 (search rules)) ((rw same at c.are_new_after.ensures).0 (search rules))

pub returns : goal.returns
returns g c =
    let whole = take_all c.loop-i.i c.args.domains.now (omega arith) in (λ _. rw whole at c.loop-i.invariant, λ _. refl)

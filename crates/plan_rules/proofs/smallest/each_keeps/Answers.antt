use Rattle.std.proofs.Common.{[], ◌∷◌, refl}
use Rattle.std.proofs.lemmas.Bool.{false≢true, iff_false}
use Rattle.std.proofs.lemmas.List.{take_all}
use Rattle.plan_rules.specs.Separate.{Rule}
use Rattle.plan_rules.proofs.ListLemmas.{all_more, all_at}
use Rattle.plan_rules.proofs.smallest.each_keeps.Goals as goal

pub returns-then-not-keeps_alone : goal.returns-then-not-keeps_alone
returns-then-not-keeps_alone c = (
  λ h. absurd (false≢true h),
  λ all.
      absurd (iff_false c.keeps_alone.ensures c.if-not-keeps_alone.true
      (all_at (λ d. Rule c.args.rule (d ∷ [])) c.args.domains.now c.loop-domain.domain-index c.domain-item.result
      c.loop-domain-test.true c.domain-item.is all)),
)

pub loop-domain-preserved : goal.loop-domain-preserved
loop-domain-preserved c =
    all_more (λ d. Rule c.args.rule (d ∷ [])) c.args.domains.now c.loop-domain.domain-index c.domain-item.result
    c.loop-domain-test.true c.domain-item.is c.loop-domain.invariant
    (c.keeps_alone.ensures.0 c.if-not-keeps_alone.false)

pub returns : goal.returns
returns c =
    let whole = take_all c.loop-domain.domain-index c.args.domains.now c.loop-domain-test.false in
    (λ _. rw whole at c.loop-domain.invariant, λ _. refl)

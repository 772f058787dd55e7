use Rattle.std.proofs.Common.{refl, arith, rules}
use Rattle.std.proofs.lemmas.List.{take_all}
use Rattle.plan_rules.specs.Separate.{IsDistinct, used_ports}
use Rattle.plan_rules.proofs.ListLemmas.{all_more}
use Rattle.plan_rules.proofs.ports.have_distinct_ports.Goals as goal

pub loop-domain-preserved : goal.loop-domain-preserved
loop-domain-preserved c =
    let kept = rw (c.as_slice.ensures.value, c.in_ok-ports.ensures) at (c.are_apart.ensures.0 (search rules)) in
    all_more (λ d. IsDistinct (used_ports d)) c.args.domains.now c.loop-domain.domain-index c.domain-item.result
    (omega arith) c.domain-item.is c.loop-domain.invariant kept

pub returns : goal.returns
returns c =
    let whole = take_all c.loop-domain.domain-index c.args.domains.now (omega arith) in
    (λ _. rw whole at c.loop-domain.invariant, λ _. refl)

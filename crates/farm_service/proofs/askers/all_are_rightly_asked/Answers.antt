use Rattle.std.proofs.Common.{subst}
use Rattle.std.proofs.lemmas.List.{take_all}
use Rattle.std.proofs.lemmas.List.Elements.{All-more}
use Rattle.farm_service.specs.declared.closed.ClosedDomain.{ClosedDomain}
use Rattle.farm_service.specs.Commands.{AreRightlyAsked}
use Rattle.farm_service.specs.Closed.{AllAreRightlyAsked, history_of}
use Rattle.farm_service.proofs.askers.all_are_rightly_asked.Goals as goal

pub loop-domain-preserved : goal.loop-domain-preserved
loop-domain-preserved c =
    All-more (λ (d : ClosedDomain). AreRightlyAsked (history_of d)) c.args.closed.now c.loop-domain.domain-index
    c.domain-item.result c.loop-domain-test.true c.loop-domain.invariant
    (subst (λ (d : ClosedDomain). AreRightlyAsked (history_of d)) c.domain-item.is
    (c.are_rightly_asked.ensures c.if-not-are_rightly_asked.false))

pub returns : goal.returns
returns c =
    λ _. subst AllAreRightlyAsked
    (take_all c.loop-domain.domain-index c.args.closed.now c.loop-domain-test.false) c.loop-domain.invariant

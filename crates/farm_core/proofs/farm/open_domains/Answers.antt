use Rattle.std.proofs.Common.{◌+◌, List, take, arith, sym, subst}
use Rattle.domain_core.specs.Domain.{DomainValue}
use Rattle.farm_core.proofs.Opened.{AreOpened, opened_more}
use Rattle.farm_core.proofs.farm.open_domains.Goals as goal

pub loop-number-preserved : goal.loop-number-preserved
loop-number-preserved c =
    let opened = c.in_ok-open_domain.ensures in
    let more =
    opened_more c.args.plan.now c.loop-number.number c.loop-number.domains.items c.in_ok-open_domain.field-0
    (omega (arith, c.domains-number-end.ensures.count)) c.loop-number.invariant opened.place opened.state opened.journal
    opened.words in
    subst (AreOpened (take (c.loop-number.number + 1) c.args.plan.now))
    (sym {A = List DomainValue} c.in_ok-push.ensures.items) more

use Rattle.std.proofs.Common.{subst}
use Rattle.std.proofs.lemmas.List.{take_all}
use Rattle.std.proofs.lemmas.List.Elements.{All-more}
use Rattle.farm_service.specs.Closed.{IsListedIn}
use Rattle.farm_service.specs.Restarts.{AllListed}
use Rattle.farm_service.proofs.restarting.all_listed.Goals as goal

pub loop-session-preserved : goal.loop-session-preserved
loop-session-preserved c =
    All-more (λ s. IsListedIn c.args.journal.now.entries s.pass) c.args.sessions.now c.loop-session.session-index
    c.session-item.result c.loop-session-test.true c.loop-session.invariant
    (subst (λ s. IsListedIn c.args.journal.now.entries s.pass) c.session-item.is
    (subst (IsListedIn c.args.journal.now.entries) c.pass.ensures (c.is_listed_in.ensures c.if-not-is_listed_in.false)))

pub returns : goal.returns
returns c =
    λ _. subst (AllListed c.args.journal.now.entries)
    (take_all c.loop-session.session-index c.args.sessions.now c.loop-session-test.false) c.loop-session.invariant

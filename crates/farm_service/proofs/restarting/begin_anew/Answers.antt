use Rattle.std.proofs.Common.{arith, ap, sym, ◌∙◌}
use Rattle.farm_service.specs.Restarts.{begun_anew}
use Rattle.farm_service.proofs.Restarts.{changed_more, changed_whole}
use Rattle.farm_service.proofs.restarting.begin_anew.Goals as goal

pub loop-session-preserved : goal.loop-session-preserved
loop-session-preserved c =
    changed_more begun_anew c.loop-session.session-index c.args.sessions.now c.loop-session.sessions
    c.session-item.result c.begin_anew.new.self c.loop-session.invariant c.session-item.is
    (c.begin_anew.ensures ∙ ap begun_anew (sym c.session-item.is))

pub returns-clause-sessions : goal.returns-clause-sessions
returns-clause-sessions c =
    changed_whole begun_anew c.loop-session.session-index c.args.sessions.now c.loop-session.sessions
    c.loop-session.invariant (omega (arith, c.loop-session-test.false, c.loop-session.auto.session-index-end))

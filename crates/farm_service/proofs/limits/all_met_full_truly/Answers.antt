use Rattle.std.proofs.Common.{subst}
use Rattle.std.proofs.lemmas.List.{take_all}
use Rattle.std.proofs.lemmas.List.Elements.{All-more}
use Rattle.farm_service.specs.Closed.{MetFullTruly, AllMetFullTruly}
use Rattle.farm_service.proofs.limits.all_met_full_truly.Goals as goal

pub loop-pass-preserved : goal.loop-pass-preserved
loop-pass-preserved c =
    All-more (MetFullTruly c.args.plan.now c.args.closed.now) c.args.users.now c.loop-pass.pass-index
    c.pass-item.result c.loop-pass-test.true c.loop-pass.invariant
    (subst (MetFullTruly c.args.plan.now c.args.closed.now) c.pass-item.is
    (c.met_full_truly.ensures c.if-not-met_full_truly.false))

pub returns : goal.returns
returns c =
    λ _. subst (AllMetFullTruly c.args.plan.now c.args.closed.now)
    (take_all c.loop-pass.pass-index c.args.users.now c.loop-pass-test.false) c.loop-pass.invariant

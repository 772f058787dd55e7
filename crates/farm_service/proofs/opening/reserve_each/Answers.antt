use Rattle.std.proofs.Common.{arith, ap, sym, ◌∙◌}
use Rattle.farm_service.specs.Passes.{with_reserved}
use Rattle.farm_service.proofs.Restarts.{changed_more, changed_whole}
use Rattle.farm_service.proofs.opening.reserve_each.Goals as goal

pub loop-pass-preserved : goal.loop-pass-preserved
loop-pass-preserved c =
    changed_more (with_reserved c.args.count) c.loop-pass.pass-index c.args.users.now c.loop-pass.users
    c.pass-item.result c.reserve.new.self c.loop-pass.invariant c.pass-item.is
    (c.in_ok-reserve.ensures.ok ∙ ap (with_reserved c.args.count) (sym c.pass-item.is))

pub returns : goal.returns
returns c =
    changed_whole (with_reserved c.args.count) c.loop-pass.pass-index c.args.users.now c.loop-pass.users
    c.loop-pass.invariant (omega (arith, c.loop-pass-test.false, c.loop-pass.auto.pass-index-end))

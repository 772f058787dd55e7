use Rattle.std.proofs.Common.{arith, ap, sym}
use Rattle.std.proofs.lemmas.List.Sums.{sum_by_more}
use Rattle.live_farm.specs.Asking.{commands_of_pass}
use Rattle.live_farm.proofs.asked.commands_of_passes.Goals as goal

pub loop-pass-preserved : goal.loop-pass-preserved
loop-pass-preserved c =
    let passes = c.args.passes.now in
    let i = c.loop-pass.pass-index in
    let pass = c.pass-item.result in
    let more = sum_by_more (commands_of_pass c.args.domain) passes i pass c.loop-pass-test.true in
    let item = ap (commands_of_pass c.args.domain) (sym c.pass-item.is) in
    omega (arith, more, item, c.commands_of_pass.ensures, c.loop-pass.invariant, c.saturating_add-commands.ensures)

use Rattle.std.proofs.Common.{length, arith, ap, sym}
use Rattle.std.proofs.lemmas.List.Sums.{sum_by_more}
use Rattle.farm_service.specs.Passes.{SessionValue}
use Rattle.live_farm.proofs.asked.commands_of_sessions.Goals as goal

pub loop-session-preserved : goal.loop-session-preserved
loop-session-preserved c =
    let sessions = c.args.sessions.now in
    let i = c.loop-session.session-index in
    let session = c.session-item.result in
    let more =
    sum_by_more (λ (s : SessionValue). length s.pass.told) sessions i session c.loop-session-test.true in
    let item = ap (λ (s : SessionValue). length s.pass.told) (sym c.session-item.is) in
    let told = ap length c.commands.ensures in
    omega (arith, more, item, told, c.loop-session.invariant, c.saturating_add-commands.ensures)

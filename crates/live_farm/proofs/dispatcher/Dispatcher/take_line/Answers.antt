use Rattle.std.proofs.Common.{rules, map}
use Rattle.live_farm.specs.Fates.{IsFate}
use Rattle.live_farm.proofs.Sendings.{next_sent}
use Rattle.live_farm.proofs.dispatcher.Dispatcher.take_line.Goals as goal

pub returns-clause-sent : goal.returns-clause-sent
returns-clause-sent g c =
    let becomes :
    IsFate (map (λ n. n.now) c.args.self.now.farm_users.now.names.items) c.in-Ok.read c.fate_of-fate.result =
    search rules in
    next_sent g.U.LineSender.was_sent c.args.self.now.sender.now _ _ _ c.args.counts.now c.count-number.new.self _
    c.in-Ok.read c.fate_of-fate.result c.count-number.result c.hand_out.result c.in-Ok.ensures.line becomes
    c.count-number.ensures.counted c.hand_out.ensures

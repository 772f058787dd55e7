use Rattle.std.proofs.Common.{◌≡◌, rules}
use Rattle.farm_service.proofs.lists.is_same.Goals as goal

pub returns-then-eq : goal.returns-then-eq
returns-then-eq c same =
    let event : c.args.told.now.event ≡ c.args.command.now.event = search rules in
    let reply : c.args.told.now.reply ≡ c.args.command.now.reply = search rules in
    λ i. record { event = event i; reply = reply i }

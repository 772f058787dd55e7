use Rattle.std.proofs.Common.{◌≡◌, length}
use Rattle.live_farm.proofs.dispatcher.Dispatcher.read_lines.Given as goal

-- there is a count for each user
abbrev pub invariant-loop : goal.invariant-loop
invariant-loop g l = l.counts.users ≡ length l.fn.self.farm_users.now.names.items

-- All users of a farm, and to whom a line goes.
use Rattle.std.specs.Prelude.{ℕ, Option, option_map, option_and_then, slice_get}
use Rattle.plan_rules.specs.declared.users.UserNumber.{UserNumber}
use Rattle.live_farm.specs.declared.farm_users.FarmUsers.{FarmUsers}
use Rattle.live_farm.specs.declared.queued.QueuedLine.{QueuedLine}
use Rattle.live_farm.specs.declared.queued.QueuedRequest.{QueuedRequest}
use Rattle.live_farm.specs.declared.mailbox.Mailbox.{Mailbox}

-- a request of the line of this number, as a queued line for this user
abbrev pub queued_for : UserNumber → ℕ → QueuedRequest → QueuedLine
queued_for whose number m = record { user = whose.user; number = number; request = m }

-- into which mailbox a request of the line of this number goes for the user of this place among all, and as what
-- queued line:
-- into that of the station of the user's domain. None, if there is no such user or no such station
abbrev pub mailed : FarmUsers → ℕ → ℕ → QueuedRequest → Option (Mailbox × QueuedLine)
mailed farm_users place number m =
    option_and_then (λ whose. option_map (λ station. (station.mailbox, queued_for whose number m))
    (slice_get farm_users.stations.items whose.domain))
    (slice_get farm_users.numbers.items place)

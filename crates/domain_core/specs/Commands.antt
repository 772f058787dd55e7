-- What of a domain's journal is one user's own: the user's commands, each with its reply.
use Rattle.std.specs.Prelude.{ℕ, ◌==◌, ◌&&◌, Bool, true, false, List, filter}
use Rattle.domain_core.specs.declared.event.By.{By}
use Rattle.domain_core.specs.declared.event.By.TheVariants.{User, Farm}
use Rattle.domain_core.specs.declared.event.Event.{Event}
use Rattle.domain_core.specs.declared.event.Event.TheVariants.{Config, Write, Read, Reset, Look, Step, Move}
use Rattle.domain_core.specs.Journal.{AnsweredCall}

-- what users ask for; Steps and Moves are the farm's
abbrev pub is_command : Event → Bool
is_command (Config byte) = true
is_command (Write host byte) = true
is_command (Read host) = true
is_command (Reset node) = true
is_command (Look node) = true
is_command (Step node) = false
is_command (Move port) = false

-- it is this user who asks
abbrev pub is_user : ℕ → By → Bool
is_user user (User other) = other == user
is_user user Farm = false

-- a command for which this user asked
abbrev pub is_own : ℕ → AnsweredCall → Bool
is_own user a = is_user user a.call.by && is_command a.call.event

-- a user's commands in a history, in their order
abbrev pub own_commands : ℕ → List AnsweredCall → List AnsweredCall
own_commands user history = filter (is_own user) history

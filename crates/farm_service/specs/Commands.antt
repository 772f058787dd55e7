-- What of a domain's journal is one user's own: the user's commands with their replies. And who asks for what.
use Rattle.std.specs.Prelude.{ℕ, ◌≡◌, Bool, true, false, List, Option, Some, None, All, cond, filter_map}
use Rattle.domain_core.specs.declared.event.By.{By}
use Rattle.domain_core.specs.declared.event.By.TheVariants.{User, Farm}
use Rattle.domain_core.specs.Journal.{AnsweredCall}
use Rattle.domain_core.specs.Commands.{is_command, is_own}
use Rattle.domain_core.specs.declared.event.AnsweredCommand.{AnsweredCommand}

-- an answered event, if it is a command of this user
abbrev pub command_from : ℕ → AnsweredCall → Option AnsweredCommand
command_from user a = cond (is_own user a) (Some (record { event = a.call.event; reply = a.reply })) None

-- a user's commands in a history, each with its reply, in their order
abbrev pub commands_of : ℕ → List AnsweredCall → List AnsweredCommand
commands_of user history = filter_map (command_from user) history

-- whether a user asks, and not the farm itself
abbrev pub is_any_user : By → Bool
is_any_user (User user) = true
is_any_user Farm = false

-- a user asks for a command, and the farm itself for a Step or a Move
abbrev pub IsRightlyAsked : AnsweredCall → Type 0
IsRightlyAsked a = is_command a.call.event ≡ is_any_user a.call.by

-- so it is with each call of a history
abbrev pub AreRightlyAsked : List AnsweredCall → Type 0
AreRightlyAsked history = All IsRightlyAsked history

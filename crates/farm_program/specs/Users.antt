-- Users at a service.
use Rattle.std.specs.Prelude.{ℕ, List, ◌≡◌, ◌==◌, ◌<◌, Some, length, map, filter, slice_get, string_bytes, All}
use Rattle.std.specs.List.{range_with_len}
use Rattle.plan_rules.specs.Data.{DomainData}
use Rattle.script_lines.specs.declared.command.Command.{Command}
use Rattle.script_lines.specs.declared.script.ScriptLine.{ScriptLine}
use Rattle.farm_service.specs.Passes.{SessionValue, UserPassValue, fresh_pass, fresh_passes}
use Rattle.line_answers.specs.Sessions.{AreAnswered}
use Rattle.plan_rules.specs.Users.{all_names}
use Rattle.farm_program.specs.declared.users.User.{User}
use Rattle.farm_program.specs.declared.users.UserOutcome.{UserOutcome}

-- what a script's lines ask for the user of a place among all, in order
abbrev pub commands_at : List ScriptLine → ℕ → List Command
commands_at lines place = map (λ l. l.command) (filter (λ l. l.user == place) lines)

-- the session of a pass at a service of this plan
abbrev pub session_of : List DomainData → UserPassValue → SessionValue
session_of plan pass = record { plan = plan; pass = pass }

-- the pass as it was before its user asked anything
abbrev pub unasked : UserPassValue → UserPassValue
unasked pass = fresh_pass pass.domain pass.user

-- the users of a plan, in its order, each with their pass and their lines of the script; no line is of anybody else.
-- All settle by this many Steps
pub record AreUsersOf (plan : List DomainData) (lines : List ScriptLine) (steps : ℕ) (users : List User)
    : Type 0 where
  pub sessions : map (λ u. session_of u.service.now.plan u.pass) users ≡ map (session_of plan) (fresh_passes plan)
  pub names : map (λ u. u.name.now) users ≡ all_names plan
  pub commands : map (λ u. commands_at u.lines.now u.place) users
      ≡ map (commands_at lines) (range_with_len 0 (length users))
  pub nobody_else : All (λ l. l.user < length users) lines
  pub quantum : All (λ u. u.quantum.steps ≡ steps) users

-- this is what the user of this name and pass leaves, whose lines were answered: the user's list gained the events of
-- the lines, and the user's screen shows their output lines
abbrev pub IsLeftBy : List DomainData → UserPassValue → List ℕ → List Command → UserOutcome → Type 0
IsLeftBy plan pass name commands end =
    AreAnswered name commands (session_of plan pass) (session_of plan end.pass) (string_bytes end.screen)

-- this is what this user leaves, whose lines were answered
abbrev pub HasAnswered : User → UserOutcome → Type 0
HasAnswered u end = IsLeftBy u.service.now.plan u.pass u.name.now (commands_at u.lines.now u.place) end

-- so it is with each of these users, in their order
pub record AreEndsOf (users : List User) (ends : List UserOutcome) : Type 0 where
  pub count : length ends ≡ length users
  pub each : (place : ℕ) (u : User) (end : UserOutcome)
      → slice_get users place ≡ Some u → slice_get ends place ≡ Some end → HasAnswered u end

-- so it is with each user of a plan, in its order, and nobody else leaves anything
pub record HaveAnswered (plan : List DomainData) (lines : List ScriptLine) (ends : List UserOutcome) : Type 0 where
  pub count : length ends ≡ length (fresh_passes plan)
  pub each : (place : ℕ) (pass : UserPassValue) (name : List ℕ) (end : UserOutcome)
      → slice_get (fresh_passes plan) place ≡ Some pass → slice_get (all_names plan) place ≡ Some name
      → slice_get ends place ≡ Some end → IsLeftBy plan pass name (commands_at lines place) end

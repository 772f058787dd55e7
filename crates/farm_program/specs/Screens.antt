-- What the program prints: a screen for each user, in the plan's order.
use Rattle.std.specs.Prelude.{ℕ, List, ◌≡◌, Some, length, slice_get, IfSome}
use Rattle.plan_rules.specs.Data.{DomainData}
use Rattle.script_lines.specs.declared.command.Command.{Command}
use Rattle.script_lines.specs.declared.script.ScriptLine.{ScriptLine}
use Rattle.farm_service.specs.declared.closed.ClosedDomain.{ClosedDomain}
use Rattle.farm_service.specs.Passes.{UserPassValue, fresh_passes}
use Rattle.farm_service.specs.Closed.{history_of, IsFull, IsNearlyFull}
use Rattle.farm_service.specs.Commands.{commands_of}
use Rattle.line_answers.specs.Lines.{AreAnsweredLines}
use Rattle.plan_rules.specs.Users.{all_names}
use Rattle.farm_program.specs.Users.{commands_at, session_of}

-- the screen of a user: the output lines of the user's lines, over the user's own commands in the history of the user's
-- domain. A line is refused for a full journal only if this history has as many events as the domain's limit. A peek is
-- refused before it reads only if it has fewer events below the limit than the most that a node does at a time
abbrev pub IsScreen : List DomainData → List ClosedDomain → UserPassValue → List ℕ → List Command → List ℕ
    → Type 0
IsScreen plan closed pass name commands screen =
    IfSome (slice_get closed pass.domain)
    (λ c. AreAnsweredLines (IsFull plan closed pass.domain) (IsNearlyFull plan closed pass.domain)
    (session_of plan pass) name commands (commands_of pass.user (history_of c)) screen)

-- a screen for each user of the plan, in its order, and none besides
pub record AreScreens (plan : List DomainData) (lines : List ScriptLine) (closed : List ClosedDomain)
    (screens : List (List ℕ)) : Type 0 where
  pub count : length screens ≡ length (fresh_passes plan)
  pub each : (place : ℕ) (pass : UserPassValue) (name screen : List ℕ)
      → slice_get (fresh_passes plan) place ≡ Some pass → slice_get (all_names plan) place ≡ Some name
      → slice_get screens place ≡ Some screen → IsScreen plan closed pass name (commands_at lines place) screen

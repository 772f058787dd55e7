-- What holds of every list of answered lines.
use Rattle.std.specs.Prelude.{ℕ, List}
use Rattle.plan_rules.specs.Data.{DomainData}
use Rattle.script_lines.specs.declared.command.Command.{Command}
use Rattle.farm_service.specs.declared.closed.ClosedDomain.{ClosedDomain}
use Rattle.farm_service.specs.Passes.{SessionValue}
use Rattle.farm_service.specs.Closed.{IsFull, IsNearlyFull, MetFullTruly}
use Rattle.line_answers.specs.Lines.{AreAnsweredLines}
use Rattle.line_answers.specs.Sessions.{AreAnswered}

-- if a session's user has met a journal that is full, or nearly full, only if the user's domain is closed with one,
-- then the lines that were answered in the session say so only if it is
abbrev pub FullIsSaidTruly : Type 0
FullIsSaidTruly =
    (plan : List DomainData) (closed : List ClosedDomain) (s t : SessionValue) (name : List ℕ)
    (commands : List Command) (screen : List ℕ) (lines : AreAnswered name commands s t screen)
    → MetFullTruly plan closed t.pass
    → AreAnsweredLines (IsFull plan closed s.pass.domain) (IsNearlyFull plan closed s.pass.domain) s name commands
    lines.told screen

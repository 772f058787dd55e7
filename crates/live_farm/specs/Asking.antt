-- How many commands the users of a domain were answered since it began: what their lists have together.
use Rattle.std.specs.Prelude.{◌==◌, ℕ, List, length, sum_by, if◌then◌else◌}
use Rattle.farm_service.specs.Passes.{UserPassValue, SessionValue}
use Rattle.record_keeping.specs.Counts.{saturated}
use Rattle.live_farm.specs.declared.group.UserGroup.{UserGroup}

-- how many commands sessions list
abbrev pub commands_of_sessions : List SessionValue → ℕ
commands_of_sessions sessions = sum_by (λ s. length s.pass.told) sessions

-- how many commands a pass lists, if it is of this domain
abbrev pub commands_of_pass : ℕ → UserPassValue → ℕ
commands_of_pass domain pass = if pass.domain == domain then length pass.told else 0

-- how many commands the passes of a domain list
abbrev pub commands_of_passes : ℕ → List UserPassValue → ℕ
commands_of_passes domain passes = sum_by (commands_of_pass domain) passes

-- how many commands the users of a domain were answered, as 64 bits count them
abbrev pub commands_asked : UserGroup → ℕ
commands_asked group = saturated (commands_of_sessions group.sessions.items)

-- the same by the passes of all users
abbrev pub commands_listed : ℕ → List UserPassValue → ℕ
commands_listed domain passes = saturated (commands_of_passes domain passes)

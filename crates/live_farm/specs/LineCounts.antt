-- The numbers of lines: each user's count alone, and so do the operator's.
use Rattle.std.specs.Prelude.{◌≡◌, ◌+◌, ℕ, Option, Some, None, IfSome, slice_get, slice_set}
use Rattle.record_keeping.specs.Counts.{saturated}
use Rattle.live_farm.specs.declared.fate.LineFate.{LineFate}
use Rattle.live_farm.specs.declared.fate.LineFate.TheVariants as fate
use Rattle.live_farm.specs.declared.line_counts.LineCounts.{LineCounts}

-- where a line counts: at its user's place, or at the place after those of all users if it is the operator's
abbrev pub line_place : ℕ → LineFate → Option ℕ
line_place users (fate.Asks user request) = Some user
line_place users (fate.Refused user w) = Some user
line_place users (fate.Operator request) = Some users
line_place users (fate.OperatorRefused w) = Some users
line_place users fate.Nobodys = None
line_place users fate.End = None
line_place users fate.PassedOver = None

-- at its place a line's number is one more than there were lines before, as 64 bits count them, and no other place
-- changes. Without a place its number is that among all lines
abbrev pub IsCountedAt : Option ℕ → LineCounts → LineCounts → ℕ → Type 0
IsCountedAt None before after number = (after.counts.items ≡ before.counts.items) × (number ≡ after.all)
IsCountedAt (Some place) before after number =
    IfSome (slice_get before.counts.items place) (λ lines. number ≡ saturated (lines + 1))
    × (after.counts.items ≡ slice_set before.counts.items place number)

-- so is a line by what becomes of it, and there is one more among all
abbrev pub IsCounted : LineFate → LineCounts → LineCounts → ℕ → Type 0
IsCounted f before after number =
    (after.all ≡ saturated (before.all + 1)) × IsCountedAt (line_place before.users f) before after number

-- What was answered to a line, and that it was written.
use Rattle.std.specs.Prelude.{◌⊎◌, ℕ, List, string_bytes}
use Rattle.live_farm.specs.declared.answering.QueuedAnswer.{QueuedAnswer}
use Rattle.live_farm.specs.declared.group.UserGroup.{UserGroup}
use Rattle.live_farm.specs.declared.queued.QueuedLine.{QueuedLine}
use Rattle.live_farm.specs.Asking.{commands_asked}
use Rattle.live_farm.specs.Closings.{RecordSays}
use Rattle.live_farm.specs.Groups.{AllStay, AnswersQueued, TellsUnrecorded, TellsFull}
use Rattle.live_farm.specs.LineRooms.{SizesSay, LacksRoom}

-- what a line asks was answered, and the record has it; or the answer is that it can't be recorded, and the record has
-- said that it lacks something; or it is that there is no room, and there was none and nobody's session changed
abbrev pub AnswersKept : {K : Type 0} → RecordSays K → (K → Type 0) → SizesSay K → K → ℕ → UserGroup → UserGroup
    → QueuedLine → QueuedAnswer → Type 0
AnswersKept has_kept has_lacked had_sizes kept room before after queued answer =
    (AnswersQueued before after queued answer
    × has_kept kept before.service.now.plan before.domain (commands_asked after))
    ⊎ (has_lacked kept × TellsUnrecorded after queued (string_bytes answer.lines.text)
    ⊎ (LacksRoom had_sizes kept room before queued.request × AllStay before after
    × TellsFull after queued (string_bytes answer.lines.text)))

-- what was so answered was written
pub record PutsAnswer {O K : Type 0} (was_put : O → List ℕ → Type 0) (outlet : O) (has_kept : RecordSays K)
    (has_lacked : K → Type 0) (had_sizes : SizesSay K) (kept : K) (room : ℕ) (before after : UserGroup)
    (queued : QueuedLine) : Type 0 where
  pub answer : QueuedAnswer
  pub put : was_put outlet (string_bytes answer.lines.text)
  pub answered : AnswersKept has_kept has_lacked had_sizes kept room before after queued answer

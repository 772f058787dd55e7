use Rattle.live_farm.proofs.Whole.{line_is_whole}
use Rattle.live_farm.proofs.group.UserGroup.answer.Goals as goal

pub of-requires : goal.of-requires
of-requires g c = line_is_whole _ _ _ _ _ c.in_ok-text.ensures.line

use Rattle.std.proofs.Common.{◌≡◌, take}
use Rattle.std.specs.List.{list_any}
use Rattle.answer_text.specs.Results.{replies_told}
use Rattle.answer_text.specs.Results.{is_shown}
use Rattle.answer_text.proofs.showing.is_any_shown.Given as goal

abbrev pub invariant-loop-it : goal.invariant-loop-it
invariant-loop-it l = l.is_any ≡ list_any is_shown (replies_told (take l.it-index l.told))

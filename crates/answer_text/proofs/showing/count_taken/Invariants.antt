use Rattle.std.proofs.Common.{◌≡◌, ◌≤◌, length, take}
use Rattle.std.specs.List.{filter}
use Rattle.answer_text.specs.Results.{replies_told}
use Rattle.answer_text.specs.Results.{is_written}
use Rattle.answer_text.proofs.showing.count_taken.Given as goal

abbrev pub invariant-loop-it : goal.invariant-loop-it
invariant-loop-it l =
    (l.count ≡ length (filter is_written (replies_told (take l.it-index l.told)))) × (l.count ≤ l.it-index)

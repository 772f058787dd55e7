use Rattle.std.proofs.Common.{◌≡◌, ◌++◌, take, string_bytes}
use Rattle.std.specs.List.{flat_map}
use Rattle.answer_text.specs.Results.{replies_told}
use Rattle.answer_text.specs.Results.{reset_text}
use Rattle.answer_text.proofs.showing.write_resets.Given as goal

abbrev pub invariant-loop-it : goal.invariant-loop-it
invariant-loop-it l =
    string_bytes l.text ≡ string_bytes l.fn.text ++ flat_map reset_text (replies_told (take l.it-index l.told))

use Rattle.std.proofs.Common.{◌≡◌, take}
use Rattle.lab_film.proofs.frame.switch_words.Given as goal

abbrev pub invariant-loop-output : goal.invariant-loop-output
invariant-loop-output l =
    (l.replayed ≡ l.initial.replayed) × (l.words.items ≡ take l.output l.initial.replayed.machine.switch.words)

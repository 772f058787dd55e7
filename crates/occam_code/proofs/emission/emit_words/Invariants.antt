use Rattle.std.proofs.Common.{◌≡◌, ◌++◌, drop}
use Rattle.occam_code.specs.Code.{words_code}
use Rattle.occam_code.proofs.emission.emit_words.Given as goal

abbrev pub invariant-loop-word : goal.invariant-loop-word
invariant-loop-word l = l.code.items ++ words_code (drop l.word-index l.words) ≡ l.fn.code.items ++ words_code l.words

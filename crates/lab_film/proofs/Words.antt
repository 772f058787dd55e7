-- The words of the outputs, one after another: the clause `words` of `switch_words`.
use Rattle.std.proofs.Common.{◌≡◌, ℕ, ◌+◌, List, [], ◌∷◌, ◌++◌, take, ap, sym, ◌∙◌}
use Rattle.std.specs.Prelude.{slice_get, Some}
use Rattle.std.proofs.lemmas.List.{take_more}
use Rattle.std.proofs.lemmas.Option.{slice_get_within, get_or_from_slice_get}
use Rattle.crossbar.specs.declared.word.Word.{Word}
use Rattle.domain_core.specs.Moments.{MomentValue}

one_more : (words : List Word) (i : ℕ) (word : Word) → slice_get words i ≡ Some word
    → take i words ++ word ∷ [] ≡ take (i + 1) words
one_more words i word at =
    sym (take_more words i word (slice_get_within words i word at)
    ∙ ap (λ (x : Word). take i words ++ x ∷ []) (get_or_from_slice_get words i word word at))

-- the first words of a moment, with that of the next output, are its first words and one more
pub next_word : (now old : MomentValue) (told : List Word) (i : ℕ) (word : Word)
    → now ≡ old → told ≡ take i old.machine.switch.words → slice_get now.machine.switch.words i ≡ Some word
    → told ++ word ∷ [] ≡ take (i + 1) old.machine.switch.words
next_word now old told i word same so_far at =
    ap (λ (words : List Word). words ++ word ∷ []) so_far
    ∙ one_more old.machine.switch.words i word
    (ap (λ (m : MomentValue). slice_get m.machine.switch.words i) (sym same) ∙ at)

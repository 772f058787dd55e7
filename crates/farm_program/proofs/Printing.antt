-- Screens that are written one after another, or a beginning of them: the clause `begun` of `answer_text`.
use Rattle.std.proofs.Common.{◌≡◌, ℕ, List, [], Option, map, inr, sym, subst, append-nil}
use Rattle.std.specs.List.{concat}
use Rattle.std.specs.Io.KnownBytes.{Appends}
use Rattle.script_text.specs.Writing.{AppendsBeginning}
use Rattle.farm_program.specs.Output.{IsOutput, PrintsBeginning}

-- screens whose beginning is written print a beginning
pub some_printed : {A : Type 0} (bytes : A → List ℕ) (text : List ℕ) (before after : Option (List ℕ)) (xs ys : List A)
    → ys ≡ xs → IsOutput text (concat (map bytes xs)) → AppendsBeginning before after (concat (map bytes ys))
    → PrintsBeginning text before after
some_printed {A} bytes text before after xs ys same is begun = inr (
  concat (map bytes xs),
  is,
  subst (λ (zs : List A). AppendsBeginning before after (concat (map bytes zs))) same begun,
)

-- so do all of them
pub all_printed : {A : Type 0} (bytes : A → List ℕ) (text : List ℕ) (before after : Option (List ℕ)) (xs ys : List A)
    → ys ≡ xs → IsOutput text (concat (map bytes xs)) → Appends before after (concat (map bytes ys))
    → PrintsBeginning text before after
all_printed bytes text before after xs ys same is held =
    let out : List ℕ = concat (map bytes ys) in
    some_printed bytes text before after xs ys same is (out, [], sym (append-nil out), held)

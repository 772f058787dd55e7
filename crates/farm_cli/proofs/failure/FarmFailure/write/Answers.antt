use Rattle.std.proofs.Common.{◌≡◌, ◌++◌, ◌∙◌, ℕ, List, sym, ap, subst, append_assoc}
use Rattle.std.specs.Prelude.{OnErr, codes}
use Rattle.script_text.specs.Writing.{AppendsBeginning}
use Rattle.farm_cli.specs.Failures.{failure_text}
use Rattle.farm_cli.proofs.failure.FarmFailure.write.Goals as goal

pub returns-in-Line-clause-begun : goal.returns-in-Line-clause-begun
returns-in-Line-clause-begun g c =
    let contents = g.E.Write.contents in
    let number = c.format-number.result.now in
    let word = c.word.result.now in
    let in_turn : number ++ (codes ": " ++ (word ++ codes "\n")) ≡ ((number ++ codes ": ") ++ word) ++ codes "\n" =
    sym (append_assoc (number ++ codes ": ") word (codes "\n")
    ∙ append_assoc number (codes ": ") (word ++ codes "\n")) in
    let text : codes "line " ++ (number ++ (codes ": " ++ (word ++ codes "\n"))) ≡ failure_text c.args.self =
    ap (λ (l : List ℕ). codes "line " ++ l) in_turn
    ∙ (λ i. codes "line "
    ++ (((c.format-number.ensures.text i ++ codes ": ") ++ c.word.ensures i) ++ codes "\n"))
    ∙ ap failure_text (sym c.in-Line.is) in
    subst (λ (text : List ℕ). OnErr c.write_texts-in-Line.result (AppendsBeginning (contents c.args.errors.now)
    (contents c.write_texts-in-Line.new.writer) text))
    text c.write_texts-in-Line.ensures.begun

use Rattle.std.proofs.Common.{◌++◌, length, sym, ap, ◌∙◌}
use Rattle.std.proofs.lemmas.Result.{on_ok_weaker}
use Rattle.occam_code.specs.Expressions.{and_code, or_code, expression_code}
use Rattle.occam_code.proofs.Patch.{patch_and, patch_or}
use Rattle.occam_code.proofs.expressions.+put_expression.Goals as goal

pub returns-in_ok-put_expression-in-And-2-clause-code : goal.returns-in_ok-put_expression-in-And-2-clause-code
returns-in_ok-put_expression-in-And-2-clause-code t c =
    let base = c.args.code.now.items in
    let k = length base in
    let t = c.args.words in
    let left = c.deref-in-And.result.now in
    let right = c.deref-in-And-2.result.now in
    let start = c.len-skip.ensures ∙ c.put_expression-in-And.new.code.ok.0 in
    c.land.ensures
    ∙ patch_and base (expression_code k t left) _ _ _ (λ i. expression_code i t right) _ _
    c.in_ok-put_expression-in-And.ensures.code start c.in_ok-jump_to-in-And.ensures
    c.in_ok-put_expression-in-And-2.ensures.code
    ∙ ap (λ a. base ++ and_code k (expression_code k t a) (λ i. expression_code i t right)) c.deref-in-And.ensures
    ∙ ap (λ b. base ++ and_code k (expression_code k t c.in-And.a.value) (λ i. expression_code i t b))
    c.deref-in-And-2.ensures
    ∙ ap (λ e. base ++ expression_code k t e) (sym c.in-And.is)

pub returns-in_ok-put-in-Or-2-clause-code : goal.returns-in_ok-put-in-Or-2-clause-code
returns-in_ok-put-in-Or-2-clause-code t c =
    let base = c.args.code.now.items in
    let k = length base in
    let t = c.args.words in
    let left = c.deref-in-Or.result.now in
    let right = c.deref-in-Or-2.result.now in
    let start = c.len-choice.ensures ∙ c.put-in-Or.new.code.ok.0 in
    on_ok_weaker c.put-in-Or-3.result
    (λ e7. patch_or base (expression_code k t left) _ _ _ _ _ _ _ (λ i. expression_code i t right) _ _
    c.in_ok-put_expression-in-Or.ensures.code c.in_ok-put-in-Or.ensures start c.in_ok-jump_to-in-Or.ensures
    c.in_ok-put_expression-in-Or-2.ensures.code c.in_ok-put-in-Or-2.ensures c.land-in-Or.ensures e7
    ∙ ap (λ a. base ++ or_code k (expression_code k t a) (λ i. expression_code i t right)) c.deref-in-Or.ensures
    ∙ ap (λ b. base ++ or_code k (expression_code k t c.in-Or.a.value) (λ i. expression_code i t b))
    c.deref-in-Or-2.ensures
    ∙ ap (λ e. base ++ expression_code k t e) (sym c.in-Or.is))
    c.put-in-Or-3.ensures

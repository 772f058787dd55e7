use Rattle.std.proofs.Common.{◌∙◌, ℕ, List, Option, ap, sym, subst, string_bytes}
use Rattle.std.specs.Prelude.{IfOk}
use Rattle.std.specs.Option.{option_copied}
use Rattle.std.proofs.lemmas.Result.{IfOk-weaker, IfOk-from_err}
use Rattle.bootstrap.specs.declared.node.Node.{Node}
use Rattle.node_causes.specs.Explained.{paragraph_text, IsOfNode}
use Rattle.node_causes.proofs.Saying.{waits_are}
use Rattle.node_causes.proofs.paragraphs.paragraph_of.Goals as goal

pub doing_of-requires : goal.doing_of-requires
doing_of-requires c =
    record { inside = waits_are _ _ _ _ c.as_slice.ensures.value c.in_ok-inside.ensures c.memory.ensures.answer }

pub returns-in_err-doing : goal.returns-in_err-doing
returns-in_err-doing c = IfOk-from_err c.from_residual-in_err-doing.result _ c.from_residual-in_err-doing.ensures.0

pub returns-in_err-found : goal.returns-in_err-found
returns-in_err-found c = IfOk-from_err c.from_residual-in_err-found.result _ c.from_residual-in_err-found.ensures.0

pub returns : goal.returns
returns c =
    let number = c.args.number in
    let there = sym c.node.ensures ∙ ap option_copied c.in-Some.is in
    subst (λ (n : Option Node). IfOk c.paragraph.result (λ text. IsOfNode number n (string_bytes text))) (sym there)
    (IfOk-weaker c.paragraph.result _ _
    (λ _ is. record {
      cause = c.cause_in-cause.result;
      doing = string_bytes c.in_ok-doing.doing;
      found = c.as_str-2.result.now;
      cause_is = c.cause_in-cause.ensures;
      doing_is = c.in_ok-doing.ensures;
      text_is = is ∙ ap (λ (d : List ℕ). paragraph_text number d c.as_str-2.result.now) c.as_str.ensures.value;
    })
    c.paragraph.ensures)

use Rattle.std.proofs.Common.{◌≡◌, ◌∙◌, Bool, List, ap, subst, string_bytes}
use Rattle.std.specs.Prelude.{IfOk}
use Rattle.std.proofs.lemmas.Result.{IfOk-weaker}
use Rattle.node_causes.specs.declared.cause.InsideWait.{InsideWait}
use Rattle.node_causes.specs.Explained.{has_ended, resting_text, wanting_text}
use Rattle.node_causes.proofs.Saying.{doing_by}
use Rattle.node_causes.proofs.doing.doing_of.Goals as goal

pub returns-in-WantsControl : goal.returns-in-WantsControl
returns-in-WantsControl c =
    doing_by string_bytes c.args.node.now c.args.cause.now _ c.wanting_words.result c.in-WantsControl.is
    (subst (λ (q : Bool). IfOk c.wanting_words.result (λ text. string_bytes text ≡ wanting_text q))
    c.quiet.ensures.answer c.wanting_words.ensures)

pub returns-in-Takes : goal.returns-in-Takes
returns-in-Takes c =
    doing_by string_bytes c.args.node.now c.args.cause.now _ c.task_words.result c.in-Takes.is c.task_words.ensures

pub returns-in-Answers : goal.returns-in-Answers
returns-in-Answers c =
    doing_by string_bytes c.args.node.now c.args.cause.now _ c.answering_words.result c.in-Answers.is
    c.answering_words.ensures

pub returns-in-Runs : goal.returns-in-Runs
returns-in-Runs c =
    doing_by string_bytes c.args.node.now c.args.cause.now _ c.running_words.result c.in-Runs.is
    (IfOk-weaker c.running_words.result _ _ (λ _ is. (c.args.notes.now.steps, is)) c.running_words.ensures)

pub returns-in-Rests : goal.returns-in-Rests
returns-in-Rests c =
    let ended = c.has_ended.ensures ∙ ap (λ (i : List InsideWait). has_ended c.in-Rests.waits i) c.requires.inside in
    doing_by string_bytes c.args.node.now c.args.cause.now _ c.resting_words.result c.in-Rests.is
    (subst (λ (b : Bool). IfOk c.resting_words.result (λ text. string_bytes text ≡ resting_text b)) ended
    c.resting_words.ensures)

pub returns-after-notes : goal.returns-after-notes
returns-after-notes c =
    doing_by string_bytes c.args.node.now c.args.cause.now _ c.halted_words.result c.in-Halted.is
    (IfOk-weaker c.halted_words.result _ _ (λ _ is. (c.match-notes.event, c.as_str.result.now, is))
    c.halted_words.ensures)

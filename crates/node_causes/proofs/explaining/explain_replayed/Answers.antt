use Rattle.std.proofs.Common.{◌∙◌, ℕ, List, None, ap, sym, subst}
use Rattle.std.proofs.lemmas.Result.{IfOk-weaker}
use Rattle.node_causes.specs.Explained.{IsExplained, led_text}
use Rattle.node_causes.proofs.explaining.explain_replayed.Goals as goal

pub returns : goal.returns
returns c =
    let causes = c.as_str.result.now in
    let explained =
    subst (λ (t : List ℕ). IsExplained c.args.replayed.now None t) (sym c.as_str.ensures.value)
    c.in_ok-causes.ensures in
    IfOk-weaker c.led_words.result _ _
    (λ _ is. (causes, explained, is ∙ ap (λ (k : ℕ). led_text k c.args.is_cut causes) c.recorded_events.ensures))
    c.led_words.ensures

use Rattle.std.proofs.Common.{ap, ap₂, codes, ◌≡◌, ◌∙◌}
use Rattle.std.specs.Prelude.{pos}
use Rattle.std.proofs.lemmas.Result.{IfOk-weaker}
use Rattle.clap.specs.Words.{app_of, new_app, rule_of, with_rule}
use Rattle.clap.specs.Simple.{app_of_fields}
use Rattle.clap.specs.declared.builder.value_parser.ValueParser.TheVariants.{Signed}
use Rattle.farm_cli.specs.Settings.{number_option}
use Rattle.farm_cli.proofs.command_line.farm_command.Goals as goal

pub returns : goal.returns
returns c =
    let to_eight : c.range.result ≡ Signed (pos 1) (pos 8) =
    rw (c.value_parser.ensures, c.new-2.ensures.start, c.new-2.ensures.end) at c.range.ensures in
    let to_most : c.range-2.result ≡ Signed (pos 1) (pos 4096) =
    rw (c.value_parser-2.ensures, c.new-3.ensures.start, c.new-3.ensures.end) at c.range-2.ensures in
    let workers_is : rule_of c.number_option-workers.result
    ≡ number_option (codes "workers") (codes "2") (Signed (pos 1) (pos 8)) =
    c.number_option-workers.ensures.rule ∙ ap (number_option (codes "workers") (codes "2")) to_eight in
    let quantum_is : rule_of c.number_option-quantum.result
    ≡ number_option (codes "quantum") (codes "256") (Signed (pos 1) (pos 4096)) =
    c.number_option-quantum.ensures.rule ∙ ap (number_option (codes "quantum") (codes "256")) to_most in
    let start_is : app_of c.after_help-command.result ≡ new_app (codes "farm") =
    ap app_of_fields c.after_help-command.ensures ∙ (ap app_of_fields c.about.ensures ∙ c.new.ensures.app) in
    let one_is =
    c.in_ok-command.ensures.shape c.number_option-workers.ensures.local ∙ ap₂ with_rule start_is workers_is in
    IfOk-weaker c.arg-2.result _ _
    (λ command added. added.shape c.number_option-quantum.ensures.local ∙ ap₂ with_rule one_is quantum_is)
    c.arg-2.ensures

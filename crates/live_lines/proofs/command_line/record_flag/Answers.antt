use Rattle.std.proofs.Common.{◌≡◌, ◌∙◌, ap, rules, Bool, Some, false}
use Rattle.std.proofs.lemmas.Result.{IfOk-weaker}
use Rattle.clap.specs.Words.{new_rule, rule_of}
use Rattle.clap.specs.declared.builder.action.ArgAction.TheVariants.{SetTrue}
use Rattle.live_lines.proofs.CommandLine.{is_filled, isnt_free}
use Rattle.live_lines.proofs.command_line.record_flag.Goals as goal

pub returns-clause-rule : goal.returns-clause-rule
returns-clause-rule c =
    let name = c.args.name.now in
    let flag : record (rule_of c.action.result) { is_free = false }
    ≡ record (new_rule name) { long = Some name; action = Some SetTrue; is_free = false } =
    search rules in
    IfOk-weaker c.requires_arg.result _ _
    (λ arg added.
    ap rule_of added.0
    ∙ ap (λ (free : Bool). record (rule_of c.action.result) { is_free = free })
    (isnt_free (record c.action.result { needs = arg.needs }) (is_filled _ _ _ added.1))
    ∙ flag)
    c.requires_arg.ensures

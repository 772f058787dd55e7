use Rattle.std.proofs.Common.{ap, ap₂, codes, ◌≡◌, ◌∙◌}
use Rattle.std.proofs.lemmas.Result.{IfOk-weaker}
use Rattle.clap.specs.Words.{app_of, new_app, with_rule}
use Rattle.clap.specs.Simple.{app_of_fields}
use Rattle.live_lines.proofs.command_line.live_command.Goals as goal

pub returns : goal.returns
returns c =
    let start : app_of c.after_help-command.result ≡ new_app (codes "live") =
    ap app_of_fields c.after_help-command.ensures ∙ (ap app_of_fields c.about.ensures ∙ c.new.ensures.app) in
    let plan =
    c.in_ok-command.ensures.shape c.plan_argument.ensures.local ∙ ap₂ with_rule start c.plan_argument.ensures.rule in
    let workers =
    c.in_ok-command-2.ensures.shape c.workers_option.ensures.local ∙ ap₂ with_rule plan c.workers_option.ensures.rule in
    let quantum =
    c.in_ok-command-3.ensures.shape c.quantum_option.ensures.local
    ∙ ap₂ with_rule workers c.quantum_option.ensures.rule in
    let folder =
    c.in_ok-command-4.ensures.shape c.record_option.ensures.local
    ∙ ap₂ with_rule quantum c.record_option.ensures.rule in
    let resume =
    c.in_ok-command-5.ensures.shape c.in_ok-resume.ensures.local
    ∙ ap₂ with_rule folder c.in_ok-resume.ensures.rule in
    let sync =
    c.in_ok-command-6.ensures.shape c.in_ok-sync.ensures.local ∙ ap₂ with_rule resume c.in_ok-sync.ensures.rule in
    let room =
    c.in_ok-command-7.ensures.shape c.room_option.ensures.local ∙ ap₂ with_rule sync c.room_option.ensures.rule in
    let record_room =
    c.in_ok-command-8.ensures.shape c.record_room_option.ensures.local
    ∙ ap₂ with_rule room c.record_room_option.ensures.rule in
    let line_steps =
    c.in_ok-command-9.ensures.shape c.line_steps_option.ensures.local
    ∙ ap₂ with_rule record_room c.line_steps_option.ensures.rule in
    IfOk-weaker c.arg-10.result _ _
    (λ command added.
    added.shape c.restart_steps_option.ensures.local ∙ ap₂ with_rule line_steps c.restart_steps_option.ensures.rule)
    c.arg-10.ensures

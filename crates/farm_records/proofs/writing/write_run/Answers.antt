use Rattle.std.proofs.Common.{rules, ◌≡◌, ◌≢◌, ◌-◌, ◌++◌, ap, sym, ◌∙◌, append_assoc, string_bytes}
use Rattle.t414_step.specs.declared.stepping.Stepped.TheVariants as stepped
use Rattle.domain_core.specs.Journal.{answered_step}
use Rattle.farm_records.specs.RecordText.{record_line_text, record_text, ran_lines, run_lines}
use Rattle.farm_records.proofs.Lines.{ended_run_text}
use Rattle.farm_records.proofs.writing.write_run.Goals as goal

pub returns-in_ok-write_ran-in-Some : goal.returns-in_ok-write_ran-in-Some
returns-in_ok-write_ran-in-Some c =
    let differs : c.args.last ≢ stepped.Ran = search rules in
    let some : c.args.count ≢ 0 = search rules in
    let more : c.in-Some.more ≡ c.args.count - 1 = search rules in
    let line = record_line_text (record { times = 1; answered = answered_step c.args.by c.args.node c.args.last }) in
    let lines : record_text (run_lines c.args.by c.args.node c.args.count c.args.last)
    ≡ record_text (ran_lines c.args.by c.args.node c.in-Some.more) ++ line =
    ended_run_text c.args.by c.args.node c.args.count c.args.last differs some
    ∙ ap (λ k. record_text (ran_lines c.args.by c.args.node k) ++ line) (sym more) in
    let text : string_bytes c.args.text.now ++ record_text (run_lines c.args.by c.args.node c.args.count c.args.last)
    ≡ (string_bytes c.args.text.now ++ record_text (ran_lines c.args.by c.args.node c.in-Some.more))
    ++ line =
    ap (λ t. string_bytes c.args.text.now ++ t) lines
    ∙ sym (append_assoc (string_bytes c.args.text.now)
    (record_text (ran_lines c.args.by c.args.node c.in-Some.more)) line) in
    rw text (search rules)

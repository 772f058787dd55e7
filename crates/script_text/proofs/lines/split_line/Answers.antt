use Rattle.std.proofs.Common.{◌+◌, length, drop, sym, ap, ◌∙◌, arith, rules}
use Rattle.std.proofs.lemmas.List.Sums.{position_or_len_is}
use Rattle.std.proofs.lemmas.List.{take_rest}
use Rattle.script_text.specs.Lines.{is_line_feed}
use Rattle.script_text.proofs.LineLemmas.{line_at, line_of_all, nothing_after}
use Rattle.script_text.proofs.lines.split_line.Goals as goal

pub returns-in-Some-clause-line : goal.returns-in-Some-clause-line
returns-in-Some-clause-line c =
    let text = c.args.text.now in
    let found = position_or_len_is is_line_feed text c.in-Some.end 0 (search rules) (search rules) (search rules) in
    c.without_return.ensures ∙ sym (line_at text c.in-Some.end found (search rules))

pub returns-in-Some-clause-rest : goal.returns-in-Some-clause-rest
returns-in-Some-clause-rest c =
    let text = c.args.text.now in
    let found = position_or_len_is is_line_feed text c.in-Some.end 0 (search rules) (search rules) (search rules) in
    take_rest text _ ∙ ap (λ n. drop (n + 1) text) (sym found)

pub returns-in-None-clause-line : goal.returns-in-None-clause-line
returns-in-None-clause-line c =
    let text = c.args.text.now in
    sym (line_of_all text
    (position_or_len_is is_line_feed text (length text) 0 (omega arith) (search rules) (search rules)))

pub returns-in-None-clause-rest : goal.returns-in-None-clause-rest
returns-in-None-clause-rest c =
    let text = c.args.text.now in
    sym (nothing_after text
    (position_or_len_is is_line_feed text (length text) 0 (omega arith) (search rules) (search rules)))

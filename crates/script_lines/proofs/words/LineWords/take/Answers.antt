use Rattle.std.proofs.Common.{◌≡◌, ◌<◌, ◌+◌, ◌∷◌, length, take, drop, sym, ap, ◌∙◌, arith, rules}
use Rattle.std.proofs.lemmas.List.Sums.{position_or_len_is}
use Rattle.std.proofs.lemmas.List.Splits.{slice_split_first}
use Rattle.std.proofs.lemmas.List.{take_rest}
use Rattle.script_lines.specs.Words.{is_blank, words_between}
use Rattle.script_lines.proofs.Splitting.{only_part}
use Rattle.script_lines.proofs.words.LineWords.take.Goals as goal

pub returns-in-Some : goal.returns-in-Some
returns-in-Some c =
    let line = c.in_ok-line.line.now in
    let end = c.in-Some.end in
    let found = position_or_len_is is_blank line end 0 (search rules) (search rules) (search rules) in
    let inside : end < length line = search rules in
    let seen : c.args.self.now ≡ words_between line = search rules in
    seen ∙ slice_split_first is_blank line 0 (omega (arith, found, inside))
    ∙ ap (λ n. take n line ∷ words_between (drop (n + 1) line)) found
    ∙ ap (λ rest. take end line ∷ words_between rest) (sym (take_rest line (end + 1)))

pub returns-in-None : goal.returns-in-None
returns-in-None c =
    let line = c.in_ok-line.line.now in
    let none = position_or_len_is is_blank line (length line) 0 (omega arith) (search rules) (search rules) in
    let seen : c.args.self.now ≡ words_between line = search rules in
    seen ∙ only_part is_blank line (omega (arith, none))

-- The first part of a text that is split, which `LineWords::take` needs, and its first line, by which `read_script`
-- goes on.
use Rattle.std.proofs.Common.{◌≡◌, ◌+◌, ◌<◌, ◌≤◌, ℕ, Bool, List, [], ◌∷◌, length, refl}
use Rattle.std.proofs.Common.{sym, ap, ◌∙◌, nat_lt, ◌==◌, inl, inr, arith, lt-ltb, le-ltb}
use Rattle.std.specs.List.{slice_split, position_or_len, before_first}
use Rattle.std.specs.Str.Lines.{lines, lines_of_parts, strip_carriage_return}
use Rattle.std.proofs.lemmas.Bool.{cond-true, cond-false, cases_lt, ne_eqb}
use Rattle.std.proofs.lemmas.List.{drop_all}
use Rattle.std.proofs.lemmas.List.Splits.{slice_split_first, slice_split_none, length-slice_split}
use Rattle.std.proofs.lemmas.List.Sums.{fails_before_first}
use Rattle.script_text.specs.Lines.{is_line_feed, line_of, after_line}

-- a list in which nothing passes is the one part
pub only_part : (p : ℕ → Bool) (xs : List ℕ) → length xs ≤ position_or_len p xs → slice_split p xs ≡ xs ∷ []
only_part p xs none = slice_split_none p xs (λ k e m. fails_before_first p xs k e (omega (arith, none, m)))

lines_of_more : (text : List ℕ) (parts : List (List ℕ)) → 0 < length parts
    → lines_of_parts (text ∷ parts) ≡ strip_carriage_return text ∷ lines_of_parts parts
lines_of_more text [] some = absurd (omega (arith, some))
lines_of_more text (y ∷ more) some = refl

-- the first of the lines of a text, and the lines after it
pub first_line : (text : List ℕ) → 0 < length text → lines text ≡ line_of text ∷ lines (after_line text)
first_line text some =
    let n = position_or_len is_line_feed text in
    elim (cases_lt n (length text)) [
      | inl inside ↦
          let rest = slice_split is_line_feed (after_line text) in
          ap lines_of_parts (slice_split_first is_line_feed text 0 inside)
          ∙ lines_of_more (before_first is_line_feed text) rest
          (omega (arith, length-slice_split is_line_feed (after_line text)))
          ∙ ap (λ l. l ∷ lines (after_line text)) (sym (cond-true (nat_lt n (length text)) _ _ (lt-ltb _ _ inside)))
      | inr past ↦
          ap lines_of_parts (only_part is_line_feed text past)
          ∙ cond-false (length text == 0) _ _ (ne_eqb (length text) 0 (λ z. omega (arith, z, some)))
          ∙ ap (λ l. l ∷ []) (sym (cond-false (nat_lt n (length text)) _ _ (le-ltb _ _ past)))
          ∙ ap (λ t. line_of text ∷ lines t) (sym (drop_all (n + 1) text (omega (arith, past))))
    ]

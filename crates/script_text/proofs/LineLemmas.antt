-- The first line of a text, and a text from a line on: the contracts of `split_line` and `divide`.
use Rattle.std.proofs.Common.{◌≡◌, ◌≢◌, ◌+◌, ◌-◌, ◌<◌, ◌++◌, ℕ, zero, suc, List, [], ◌∷◌, length}
use Rattle.std.proofs.Common.{take, drop, refl, sym, ap, ◌∙◌, append_assoc, length-append}
use Rattle.std.proofs.Common.{nat_lt, ◌==◌, true, false, inl, inr, arith, lt-ltb, le-ltb}
use Rattle.std.specs.List.{position_or_len}
use Rattle.std.specs.Str.Lines.{strip_carriage_return}
use Rattle.std.proofs.lemmas.Bool.{cond-true, cond-false, cases_lt, false≢true, eqb-true}
use Rattle.std.proofs.lemmas.List.{take-append-drop, drop_all}
use Rattle.std.proofs.Math.Seq.{take-append_seam}
use Rattle.script_text.specs.Lines.{is_line_feed, line_of, after_line, from_line, IsLine}

-- if a line feed is found, the first line is what is before it, without a carriage return at its end
pub line_at : (text : List ℕ) (end : ℕ) → position_or_len is_line_feed text ≡ end → end < length text
    → line_of text ≡ strip_carriage_return (take end text)
line_at text end found inside =
    cond-true (nat_lt (position_or_len is_line_feed text) (length text)) _ _ (lt-ltb _ _ (rw found inside))
    ∙ ap (λ n. strip_carriage_return (take n text)) found

-- if there is no line feed, the first line is the whole text
pub line_of_all : (text : List ℕ) → position_or_len is_line_feed text ≡ length text → line_of text ≡ text
line_of_all text none =
    cond-false (nat_lt (position_or_len is_line_feed text) (length text)) _ _ (le-ltb _ _ (rw none (omega arith)))

-- and no text comes after it
pub nothing_after : (text : List ℕ) → position_or_len is_line_feed text ≡ length text → after_line text ≡ []
nothing_after text none = drop_all (position_or_len is_line_feed text + 1) text (rw none (omega arith))

-- a text is read up to this rest, and no line before it is the mark
pub record IsReached (text mark rest : List ℕ) : Type 0 where
  pub number : ℕ
  pub before : List ℕ
  pub here : rest ≡ from_line number text
  pub parts : text ≡ before ++ rest
  pub none : (other : ℕ) → other < number → ¬ IsLine text other mark

-- past the end there is no line
none_after : (text : List ℕ) (number more : ℕ) → from_line number text ≡ [] → from_line (number + more) text ≡ []
none_after text number zero none =
    let same : number + zero ≡ number = omega arith in
    ap (λ n. from_line n text) same ∙ none
none_after text number (suc more) none =
    let same : number + suc more ≡ suc (number + more) = omega arith in
    ap (λ n. from_line n text) same ∙ ap after_line (none_after text number more none)

-- if no line before this one is the mark, and this one isn't, no line up to it is
pub none_through : (text mark : List ℕ) (number : ℕ) → ((other : ℕ) → other < number → ¬ IsLine text other mark)
    → ¬ (line_of (from_line number text) ≡ mark) → (other : ℕ) → other < suc number → ¬ IsLine text other mark
none_through text mark number none differs other lt is =
    elim (cases_lt other number) [
      | inl below ↦ none other below is
      | inr at ↦
          let same : number ≡ other = omega arith in
          differs (ap (λ n. line_of (from_line n text)) same ∙ is.1)
    ]

-- if the text ends before a line, and no line before that is the mark, no line at all is
pub none_at_all : (text mark : List ℕ) (number : ℕ) → from_line number text ≡ []
    → ((other : ℕ) → other < number → ¬ IsLine text other mark) → (other : ℕ) → ¬ IsLine text other mark
none_at_all text mark number empty none other is =
    elim (cases_lt other number) [
      | inl below ↦ none other below is
      | inr past ↦
          let same : other ≡ number + (other - number) = omega arith in
          is.0 (ap (λ n. from_line n text) same ∙ none_after text number (other - number) empty)
    ]

-- a text whose length isn't 0 isn't empty
pub is_not_empty : (xs : List ℕ) → false ≡ (length xs == 0) → xs ≢ []
is_not_empty xs same e = false≢true (same ∙ ap (λ ys. length ys == 0) e)

-- a text whose length is 0 is empty
pub is_empty : (xs : List ℕ) → true ≡ (length xs == 0) → xs ≡ []
is_empty [] same = refl
is_empty (x ∷ xs) same = absurd (omega (arith, eqb-true (length (x ∷ xs)) 0 (sym same)))

-- what comes after the first line of an end of a text is an end of that text
pub text_before : (text before rest : List ℕ) → text ≡ before ++ rest
    → (longer : List ℕ) × (text ≡ longer ++ after_line rest)
text_before text before rest parts =
    let n = position_or_len is_line_feed rest + 1 in (
      before ++ take n rest,
      parts ∙ ap (λ xs. before ++ xs) (sym (take-append-drop n rest))
          ∙ sym (append_assoc before (take n rest) (drop n rest)),
    )

-- an end of a text comes after as many bytes as the text is longer
pub before_rest : (text before rest : List ℕ) → text ≡ before ++ rest
    → text ≡ take (length text - length rest) text ++ rest
before_rest text before rest parts =
    let count : length text - length rest ≡ length before = omega (arith, ap length parts, length-append before rest) in
    let front : take (length before) text ≡ before = ap (take (length before)) parts ∙ take-append_seam before rest in
    parts ∙ ap (λ xs. xs ++ rest) (sym (ap (λ n. take n text) count ∙ front))

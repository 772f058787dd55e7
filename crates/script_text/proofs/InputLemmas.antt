-- The first line of a text that is read in parts: the contracts of `read_beginning` and `next_line`.
use Rattle.std.proofs.Common.{◌≡◌, ◌≢◌, ◌+◌, ◌<◌, ◌++◌, ℕ, List, [], All, Option, Some, None, IfSome, OnSome, length, take, drop, sym, ap, ◌∙◌, subst, arith, length-append, take_all, le_refl}
use Rattle.std.proofs.lemmas.List.{take-append-le}
use Rattle.std.proofs.lemmas.List.Elements.{All-append}
use Rattle.std.proofs.KnownBytes.{starts_with_rest, Consumes-trans}
use Rattle.std.proofs.BufReadLemmas.{Consumes_through, take_through-append, take_through-nil, drop_through-append}
use Rattle.std.specs.Io.{StartsWith, StopsAt, IsEmptyOrEndsWith, appended_bytes}
use Rattle.std.specs.Io.BufRead.{take_through, drop_through, DropsThrough}
use Rattle.std.specs.Io.KnownBytes.{Consumes, IsAtEnd}
use Rattle.script_text.specs.InputLines.{whole_line}

-- what was read of a text, and then more of it, was read of the text
pub read_more : (before between after : Option (List ℕ)) (old new : List ℕ) → StartsWith new old
    → Consumes before between old → Consumes between after (appended_bytes old new) → Consumes before after new
read_more before between after old new starts first second =
    subst (Consumes before after) (sym (starts_with_rest new old starts))
    (Consumes-trans before between after old (drop (length old) new) first second)

-- neither part has a line feed, so the whole has none
pub none_more : (old new : List ℕ) → StartsWith new old → All (λ x. x ≢ 10) old
    → All (λ x. x ≢ 10) (appended_bytes old new) → All (λ x. x ≢ 10) new
none_more old new starts first second =
    subst (All (λ x. x ≢ 10)) (sym (starts_with_rest new old starts))
    (All-append (λ x. x ≢ 10) old (drop (length old) new) first second)

-- if the last part ends with a line feed, or at the end of the text, the first line was read
pub line_read : (before between after : Option (List ℕ)) (old new : List ℕ) → StartsWith new old
    → Consumes before between old → All (λ x. x ≢ 10) old → Consumes between after (appended_bytes old new)
    → StopsAt (appended_bytes old new) 10 → IsEmptyOrEndsWith (appended_bytes old new) 10
    → (length (appended_bytes old new) ≡ 0 → OnSome between (IsAtEnd after))
    → IfSome before (λ text. new ≡ whole_line text) × DropsThrough before after 10
line_read before between after old new starts first none second stops ends end =
    let read = Consumes_through 10 before between after old (drop (length old) new) first none second stops ends end in
    (of before read.0, read.1)
  where
    of : (known : Option (List ℕ)) → IfSome known (λ text. old ++ drop (length old) new ≡ take_through 10 text)
        → IfSome known (λ text. new ≡ whole_line text)
    of None is = tt
    of (Some text) is = starts_with_rest new old starts ∙ is

-- a text whose first line is nothing is nothing
pub end_read : (known : Option (List ℕ)) (read : List ℕ) → IfSome known (λ text. read ≡ whole_line text)
    → length read ≡ 0 → IfSome known (λ text. text ≡ [])
end_read None read is none = tt
end_read (Some text) read is none = take_through-nil 10 text (sym (ap length is) ∙ none)

-- if what was read has no line feed, it is the beginning of a line
pub long_read : (known left : Option (List ℕ)) (read : List ℕ) (most : ℕ) → Consumes known left read
    → All (λ x. x ≢ 10) read → length read ≡ most + 1
    → IfSome known (λ text. (read ≡ take (most + 1) (whole_line text)) × (most < length (whole_line text)))
long_read None left read most is none many = tt
long_read (Some text) None read most is none many = absurd is
long_read (Some text) (Some rest) read most is none many =
    let line : whole_line text ≡ read ++ take_through 10 rest =
    ap (take_through 10) is ∙ take_through-append 10 read rest none in
    let front : take (most + 1) (read ++ take_through 10 rest) ≡ read =
    ap (λ n. take n (read ++ take_through 10 rest)) (sym many)
    ∙ take-append-le (length read) read (take_through 10 rest) (le_refl _)
    ∙ take_all (length read) read (le_refl _) in (
      sym (ap (take (most + 1)) line ∙ front),
      omega (arith, many, ap length line, length-append read (take_through 10 rest)),
    )

-- and if what follows it is passed over up to the next line feed, the whole line is
pub rest_passed : (known left after : Option (List ℕ)) (read : List ℕ) → Consumes known left read
    → All (λ x. x ≢ 10) read → DropsThrough left after 10 → DropsThrough known after 10
rest_passed None left after read is none passed = tt
rest_passed (Some text) None after read is none passed = absurd is
rest_passed (Some text) (Some rest) after read is none passed =
    passed ∙ ap Some (sym (ap (drop_through 10) is ∙ drop_through-append 10 read rest none))

-- What the reading of a word and of a script rests on: the clauses of `read_script`, the clause `fault` of
-- `parse_target`, and the contract of `user_named`.
use Rattle.std.proofs.Common.{◌≡◌, ◌+◌, ◌<◌, ◌++◌, ℕ, List, Bool, cond, [], ◌∷◌, length, map, sym, ap, ◌∙◌}
use Rattle.std.proofs.Common.{true, false, not, inl, inr, subst, append-nil, append_assoc, length-append, arith}
use Rattle.std.specs.Prelude.{slice_get, Option, Some, None, All}
use Rattle.std.specs.Borrow.{Bor}
use Rattle.std.proofs.lemmas.Option.{slice_get_within}
use Rattle.std.specs.List.{AllZip, AllByRecursion}
use Rattle.std.specs.Str.{IsUtf8}
use Rattle.std.specs.Str.Parse.{AllDigits}
use Rattle.std.specs.Str.Lines.{lines}
use Rattle.std.proofs.lemmas.Bool.{cases_lt}
use Rattle.std.proofs.lemmas.List.{get_or_past, length-map}
use Rattle.std.proofs.lemmas.List.Elements.{filter-append, All-from_recursion}
use Rattle.std.proofs.lemmas.Str.{IsUtf8-from_ascii}
use Rattle.std.proofs.lemmas.Str.Parse.{digit_at}
use Rattle.hex.specs.Hex.{is_hex_digit}
use Rattle.hex.proofs.HexLemmas.{decode_of-ok}
use Rattle.script_text.specs.Hexadecimal.{Spells}
use Rattle.script_text.specs.Lines.{asks_nothing, line_of, after_line}
use Rattle.script_lines.specs.declared.script.ScriptLine.{ScriptLine}
use Rattle.script_lines.specs.declared.fault.LineFault.{LineFault}
use Rattle.script_lines.specs.Words.{words_between}
use Rattle.script_lines.specs.Lines.{IsLineFault, IsUserName}
use Rattle.script_lines.specs.Script.{IsScript, IsAsked, IsFirstFault, asking}
use Rattle.script_lines.proofs.Splitting.{first_line}

-- what two equal options hold
some_is : (text other_text : List ℕ) → Some text ≡ Some other_text → text ≡ other_text
some_is text other_text same = ap (held text) same
  where
    held : List ℕ → Option (List ℕ) → List ℕ
    held d None = d
    held d (Some z) = z

-- decimal digits are UTF-8
pub digits_are_utf8 : (word : List ℕ) → AllDigits 10 word → IsUtf8 word
digits_are_utf8 word digits = IsUtf8-from_ascii word (λ i.
    elim (cases_lt i (length word)) [
      | inl inside ↦ let range = digit_at word i digits inside in omega (arith, range.1)
      | inr past ↦ omega (arith, get_or_past word i 0 past)
    ])

-- a hexadecimal digit is below 128
digit_is_ascii : (byte : ℕ) → is_hex_digit byte ≡ true → byte < 128
digit_is_ascii byte is = grind (arith)

-- a word that spells bytes is UTF-8
pub spelling_is_utf8 : (word bytes : List ℕ) → Spells word bytes → IsUtf8 word
spelling_is_utf8 [] bytes spells = absurd spells
spelling_is_utf8 (digit ∷ digits) bytes spells =
    let word = digit ∷ digits in
    IsUtf8-from_ascii word (λ i.
    elim (cases_lt i (length word)) [
      | inl inside ↦ digit_is_ascii _ ((decode_of-ok word bytes spells).1 i 0 inside)
      | inr past ↦ omega (arith, get_or_past word i 0 past)
    ])

-- the script up to this rest of its text asks exactly this, in that many lines
pub record IsReadTo (names : List (List ℕ)) (text rest : List ℕ) (asked : List ScriptLine) (count : ℕ) : Type 0 where
  pub before : List (List ℕ)
  pub parts : lines text ≡ before ++ lines rest
  pub readable : IsScript names before asked
  pub counted : count ≡ length before

asking_one : (line : List ℕ) (b : Bool) → asks_nothing line ≡ b → asking (line ∷ []) ≡ cond (not b) (line ∷ []) []
asking_one line b same = ap (λ x. cond (not x) (line ∷ []) []) same

zip_more : (names lines : List (List ℕ)) (asked : List ScriptLine) (line : List ℕ) (l : ScriptLine)
    → AllZip (IsAsked names) lines asked → IsAsked names line l
    → AllZip (IsAsked names) (lines ++ line ∷ []) (asked ++ l ∷ [])
zip_more names [] [] line l all one = (one, tt)
zip_more names [] (k ∷ asked) line l all one = absurd all
zip_more names (x ∷ lines) [] line l all one = absurd all
zip_more names (x ∷ lines) (k ∷ asked) line l all one = (all.0, zip_more names lines asked line l all.1 one)

-- if a script is read up to a line that asks nothing, it is read up to the line after, and asks no more
pub read_past : (names : List (List ℕ)) (text rest after : List ℕ) (asked : List ScriptLine) (count : ℕ)
    → IsReadTo names text rest asked count → 0 < length rest → asks_nothing (line_of rest) ≡ true
    → after ≡ after_line rest
    → IsReadTo names text after asked (count + 1)
read_past names text rest after asked count read some nothing is =
    let before = read.before in
    record {
      before = before ++ line_of rest ∷ [];
      parts =
          read.parts ∙ ap (λ ls. before ++ ls) (first_line rest some)
          ∙ sym (append_assoc before (line_of rest ∷ []) (lines (after_line rest)))
          ∙ ap (λ t. (before ++ line_of rest ∷ []) ++ lines t) (sym is);
      readable =
          subst (λ ls. AllZip (IsAsked names) ls asked)
          (sym (filter-append _ before (line_of rest ∷ [])
          ∙ ap (λ ls. asking before ++ ls) (asking_one (line_of rest) true nothing) ∙ append-nil (asking before)))
          read.readable;
      counted = omega (arith, read.counted, length-append before (line_of rest ∷ []));
    }

-- if it is read up to a line that asks something, it is read up to the line after, and asks that too
pub read_more : (names : List (List ℕ)) (text rest after : List ℕ)
    (asked more : List ScriptLine) (l : ScriptLine) (count : ℕ)
    → IsReadTo names text rest asked count → 0 < length rest → asks_nothing (line_of rest) ≡ false
    → IsAsked names (line_of rest) l → after ≡ after_line rest → more ≡ asked ++ l ∷ []
    → IsReadTo names text after more (count + 1)
read_more names text rest after asked more l count read some asks one is items =
    let before = read.before in
    record {
      before = before ++ line_of rest ∷ [];
      parts =
          read.parts ∙ ap (λ ls. before ++ ls) (first_line rest some)
          ∙ sym (append_assoc before (line_of rest ∷ []) (lines (after_line rest)))
          ∙ ap (λ t. (before ++ line_of rest ∷ []) ++ lines t) (sym is);
      readable =
          subst (AllZip (IsAsked names) (asking (before ++ line_of rest ∷ []))) (sym items)
          (subst (λ ls. AllZip (IsAsked names) ls (asked ++ l ∷ []))
          (sym (filter-append _ before (line_of rest ∷ [])
          ∙ ap (λ ls. asking before ++ ls) (asking_one (line_of rest) false asks)))
          (zip_more names (asking before) asked (line_of rest) l read.readable one));
      counted = omega (arith, read.counted, length-append before (line_of rest ∷ []));
    }

-- if it is read up to a line that is wrong, that is its first wrong line
pub read_wrong : (names : List (List ℕ)) (text rest : List ℕ) (asked : List ScriptLine) (count : ℕ) (f : LineFault)
    → IsReadTo names text rest asked count → 0 < length rest → asks_nothing (line_of rest) ≡ false
    → IsLineFault names (words_between (line_of rest)) f
    → IsFirstFault names (lines text) (count + 1) f
read_wrong names text rest asked count f read some asks wrong =
    record {
      before = read.before;
      line = line_of rest;
      after = lines (after_line rest);
      asked = asked;
      parts = read.parts ∙ ap (λ ls. read.before ++ ls) (first_line rest some);
      count = ap (λ n. n + 1) read.counted;
      readable = read.readable;
      asks = asks;
      wrong = wrong;
    }

-- if no place before this one has a name, and this one has another name, no place up to it has the name
pub no_earlier_name : (names : List (List ℕ)) (name : List ℕ) (user : ℕ) (other : List ℕ)
    → ((k : ℕ) → k < user → ¬ IsUserName names name k) → IsUserName names other user → ¬ (other ≡ name) → (k : ℕ)
    → k < user + 1
    → ¬ IsUserName names name k
no_earlier_name names name user other none here differs k lt is =
    elim (cases_lt k user) [
      | inl below ↦ none k below is
      | inr past ↦
          let same : user ≡ k = omega (arith, lt, past) in
          differs (some_is other name (sym here ∙ ap (λ n. slice_get names n) same ∙ is))
    ]

each_named : (names : List (Bor (List ℕ))) (texts : List (List ℕ)) (asked : List ScriptLine)
    → AllZip (IsAsked (map (λ n. n.now) names)) texts asked
    → AllByRecursion (λ l. l.user < length names) asked
each_named names [] [] all = tt
each_named names [] (l ∷ asked) all = absurd all
each_named names (line ∷ texts) [] all = absurd all
each_named names (line ∷ texts) (l ∷ asked) all = (
  omega (
    arith,
    length-map names (λ n. n.now),
    slice_get_within (map (λ n. n.now) names) l.user _ all.0.begins.named,
  ),
  each_named names texts asked all.1,
)

-- each line is of a user who is named
pub users_named : (names : List (Bor (List ℕ))) (texts : List (List ℕ)) (asked : List ScriptLine)
    → AllZip (IsAsked (map (λ n. n.now) names)) texts asked
    → All (λ l. l.user < length names) asked
users_named names texts asked all =
    All-from_recursion (λ (l : ScriptLine). l.user < length names) asked (each_named names texts asked all)

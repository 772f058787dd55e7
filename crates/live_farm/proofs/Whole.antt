-- What is written line by line is whole lines: what `LiveAnswer::of` requires of `UserGroup::answer` and
-- `LiveAnswer::line`, and the invariant of `Outlet`.
use Rattle.std.proofs.Common.{◌≡◌, ℕ, List, [], ◌∷◌, ◌++◌, refl, true, false}
use Rattle.std.proofs.Common.{rules, Bool, ap, ◌∙◌, sym, subst, append-nil}
use Rattle.std.specs.Prelude.{None, Some, Option, ◌||◌, ◌==◌, codes}
use Rattle.std.specs.Fmt.{decimal}
use Rattle.std.specs.Option.{option_map_or}
use Rattle.std.specs.Io.KnownBytes.{Appends, Keeps}
use Rattle.script_lines.specs.declared.command.Command.{Command}
use Rattle.script_lines.specs.Verbs.{name_of, verb_of, target_asked}
use Rattle.answer_text.specs.Results.{behind_blank, outcome_text, line_text, replies_told}
use Rattle.live_farm.specs.declared.group.UserGroup.{UserGroup}
use Rattle.live_farm.specs.Groups.{AnswersLine}
use Rattle.live_farm.specs.WholeLines.{are_lines, is_whole}

-- bytes that end in a line feed
abbrev pub is_ended : List ℕ → Bool
is_ended [] = false
is_ended (x ∷ []) = x == 10
is_ended (x ∷ y ∷ ys) = is_ended (y ∷ ys)

-- bytes that end in a line feed still do so after other bytes
pub ended_behind : (xs ys : List ℕ) → is_ended ys ≡ true → is_ended (xs ++ ys) ≡ true
ended_behind [] ys is = is
ended_behind (x ∷ xs) ys is = more x (xs ++ ys) (ended_behind xs ys is)
  where
    more : (x : ℕ) (zs : List ℕ) → is_ended zs ≡ true → is_ended (x ∷ zs) ≡ true
    more x [] is = absurd (search rules)
    more x (z ∷ zs) is = is

-- bytes that end in a line feed are whole lines
pub ended_lines : (xs : List ℕ) → is_ended xs ≡ true → are_lines xs ≡ true
ended_lines [] is = refl
ended_lines (x ∷ []) is = is
ended_lines (x ∷ y ∷ ys) is = ended_lines (y ∷ ys) is

-- an output line of a script is a whole line
pub line_is_whole : (before after : UserGroup) (user : ℕ) (command : Command) (text : List ℕ)
    → AnswersLine before after user command text
    → are_lines text ≡ true
line_is_whole before after user command text is =
    let line = is.answered.is_line in
    let told = replies_told is.answered.told in
    let shown =
    is.name ++ behind_blank (name_of (verb_of command))
    ++ option_map_or (λ (p : ℕ). behind_blank (decimal p)) (target_asked command) []
    ++ outcome_text command told line.result in
    let ended : is_ended (line_text is.name command told line.result) ≡ true =
    ended_behind shown (codes "\n") refl in
    subst (λ (t : List ℕ). are_lines t ≡ true) (sym (is.answered.text ∙ line.is_text))
    (ended_lines (line_text is.name command told line.result) ended)

-- ---- a writer

behind : (xs : List ℕ) (number : ℕ) (ys : List ℕ) → are_lines (xs ++ number ∷ ys) ≡ are_lines (number ∷ ys)
behind [] number ys = refl
behind (x ∷ []) number ys = refl
behind (x ∷ w ∷ xs) number ys = behind (w ∷ xs) number ys

-- lines after lines are lines
pub lines_behind : (xs ys : List ℕ) → are_lines xs ≡ true → are_lines ys ≡ true → are_lines (xs ++ ys) ≡ true
lines_behind xs [] before after = ap are_lines (append-nil xs) ∙ before
lines_behind xs (y ∷ ys) before after = behind xs y ys ∙ after

whole_after : (text other_text third_text : Option (List ℕ)) (lines : List ℕ)
    → is_whole text ≡ true → are_lines lines ≡ true → Appends text other_text lines → Keeps other_text third_text
    → is_whole third_text ≡ true
whole_after None other_text third_text lines whole ended one two = absurd (search rules)
whole_after (Some xs) None third_text lines whole ended one two = elim one [ ]
whole_after (Some xs) (Some ys) None lines whole ended one two = elim two [ ]
whole_after (Some xs) (Some ys) (Some zs) lines whole ended one two =
    subst (λ (t : List ℕ). are_lines t ≡ true) (sym (two ∙ one)) (lines_behind xs lines whole ended)

-- a writer that has whole lines, and takes whole lines, has whole lines
pub put_whole : (flag : Bool) (text other_text third_text : Option (List ℕ)) (lines : List ℕ)
    → (flag || is_whole text) ≡ true → flag ≡ false → are_lines lines ≡ true → Appends text other_text lines
    → Keeps other_text third_text
    → (false || is_whole third_text) ≡ true
put_whole false text other_text third_text lines same off ended one two =
    whole_after text other_text third_text lines same ended one two
put_whole true text other_text third_text lines same off ended one two = absurd (search rules)

-- The lines of a text, and its division at one of them.
use Rattle.std.specs.Prelude.{◌≡◌, ◌≢◌, ◌<◌, ◌==◌, ◌++◌, ◌⊎◌, ℕ, zero, suc, List, [], ◌∷◌, Bool, true, length, nat_lt, codes, if◌then◌else◌}
use Rattle.std.specs.List.{position_or_len, before_first, after_first}
use Rattle.std.specs.Str.Lines.{strip_carriage_return}

-- the byte that ends a line
abbrev pub is_line_feed : ℕ → Bool
is_line_feed byte = byte == 10

-- the first line of a text: what comes before the first line feed, without one carriage return at its end, or the whole
-- text
abbrev pub line_of : List ℕ → List ℕ
line_of text =
    if nat_lt (position_or_len is_line_feed text) (length text)
    then strip_carriage_return (before_first is_line_feed text)
    else text

-- what follows the first line
abbrev pub after_line : List ℕ → List ℕ
after_line text = after_first is_line_feed text

-- the text from the line of this number on, the first being 0
abbrev pub from_line : ℕ → List ℕ → List ℕ
from_line zero text = text
from_line (suc number) text = after_line (from_line number text)

-- the text has a line of this number, and it is exactly these bytes
abbrev pub IsLine : List ℕ → ℕ → List ℕ → Type 0
IsLine text number line = (from_line number text ≢ []) × (line_of (from_line number text) ≡ line)

-- the first line of exactly these bytes has this number
abbrev pub IsFirstLineOf : List ℕ → List ℕ → ℕ → Type 0
IsFirstLineOf text mark number =
    IsLine text number mark × ((other : ℕ) → other < number → ¬ IsLine text other mark)

-- the text before and after the first line that is the mark; if there is none, the whole text and nothing
abbrev pub IsDivided : List ℕ → List ℕ → List ℕ → List ℕ → Type 0
IsDivided text mark before after =
    ((number : ℕ) × IsFirstLineOf text mark number × (text ≡ before ++ from_line number text)
    × (after ≡ from_line (suc number) text))
    ⊎ (((number : ℕ) → ¬ IsLine text number mark) × (before ≡ text) × (after ≡ []))

-- the line that ends a plan, if more follows it in its text
abbrev pub plan_end : List ℕ
plan_end = codes "---"

-- a line that is empty or begins with `#`
abbrev pub asks_nothing : List ℕ → Bool
asks_nothing [] = true
asks_nothing (byte ∷ line) = byte == 35

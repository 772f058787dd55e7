-- Lines that are read one at a time, of bounded length.
use Rattle.std.specs.Prelude.{◌≡◌, ◌<◌, ◌≤◌, ◌+◌, ◌++◌, ℕ, List, [], length, take}
use Rattle.std.specs.Io.BufRead.{take_through}
use Rattle.script_text.specs.declared.input_line.InputLine.{InputLine}
use Rattle.script_text.specs.declared.input_line.InputLine.TheVariants.{Whole, Long, NoMemory, End}

-- the first line of a text with its line feed, or the whole text if it has no line feed
abbrev pub whole_line : List ℕ → List ℕ
whole_line text = take_through 10 text

-- what is read of a text is its first line, if that has at most `most` bytes. Of a line that is too long it is the
-- beginning, one byte more than that. If memory ran out it is a beginning of the text
abbrev pub IsNextLine : List ℕ → ℕ → InputLine → Type 0
IsNextLine text most (Whole line) =
    (line.items ≡ whole_line text) × (0 < length line.items) × (length line.items ≤ most)
IsNextLine text most (Long beginning) =
    (beginning.items ≡ take (most + 1) (whole_line text)) × (most < length (whole_line text))
IsNextLine text most (NoMemory beginning) = (rest : List ℕ) × (text ≡ beginning.items ++ rest)
IsNextLine text most End = text ≡ []

-- What a text expects of an answer.
use Rattle.std.specs.Prelude.{ℕ, List, [], ◌∷◌, ◌&&◌, ◌==◌, if◌then◌else◌}

-- the lines of an expected answer: a line feed in the place of each `; `
abbrev pub expected_lines : List ℕ → List ℕ
expected_lines [] = []
expected_lines (a ∷ []) = a ∷ []
expected_lines (a ∷ b ∷ rest) =
    if (a == 59) && (b == 32) then 10 ∷ expected_lines rest else a ∷ expected_lines (b ∷ rest)

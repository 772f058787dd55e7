-- Whole lines that are written.
use Rattle.std.specs.Prelude.{ℕ, List, [], ◌∷◌, Bool, true, false, Option, None, Some, ◌==◌}

-- no bytes, or bytes that end in a line feed
abbrev pub are_lines : List ℕ → Bool
are_lines [] = true
are_lines (x ∷ []) = x == 10
are_lines (x ∷ y ∷ ys) = are_lines (y ∷ ys)

-- the bytes are known, and are whole lines
abbrev pub is_whole : Option (List ℕ) → Bool
is_whole None = false
is_whole (Some xs) = are_lines xs

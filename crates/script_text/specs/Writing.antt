-- What a writer holds after a write that failed.
use Rattle.std.specs.Prelude.{◌≡◌, ◌++◌, ℕ, List, Option}
use Rattle.std.specs.Io.KnownBytes.{Appends}

-- known bytes grow by a beginning of these
abbrev pub AppendsBeginning : Option (List ℕ) → Option (List ℕ) → List ℕ → Type 0
AppendsBeginning before after bytes =
    (beginning rest : List ℕ) × (bytes ≡ beginning ++ rest) × Appends before after beginning

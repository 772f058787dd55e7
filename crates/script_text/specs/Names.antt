-- Tables of names and values.
use Rattle.std.specs.Prelude.{◌≡◌, ◌≢◌, ℕ, List, All, Some, slice_get}
use Rattle.std.specs.Borrow.{Bor}

-- a table has this value at this name
pub record NamesValue {V : Type 0} (table : List (Bor (List ℕ) × V)) (name : List ℕ) (value : V) : Type 0 where
  pub place : ℕ
  pub text : Bor (List ℕ)
  pub entry : slice_get table place ≡ Some (text, value)
  pub named : text.now ≡ name

-- a table has nothing at this name
abbrev pub NamesNothing : {V : Type 0} → List (Bor (List ℕ) × V) → List ℕ → Type 0
NamesNothing table name = All (λ entry. entry.0.now ≢ name) table

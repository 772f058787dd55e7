-- A list with one more item after the others.
use Rattle.std.proofs.Common.{ℕ, zero, suc, List, [], ◌∷◌, ◌++◌, length, slice_get, IfSome, rules}

-- what holds of each item at its place, and of one more, holds of all
pub one_more : {A : Type 0} (P : ℕ → A → Type 0) (xs : List A) (x : A)
    → ((k : ℕ) → IfSome (slice_get xs k) (P k)) → P (length xs) x → (k : ℕ)
    → IfSome (slice_get (xs ++ x ∷ []) k) (P k)
one_more P [] x all here zero = here
one_more P [] x all here (suc k) = search rules
one_more P (y ∷ xs) x all here zero = all zero
one_more P (y ∷ xs) x all here (suc k) = one_more (λ n. P (suc n)) xs x (λ n. all (suc n)) here k

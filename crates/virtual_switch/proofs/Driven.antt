-- The masks of what inputs drive, for the invariant of `VirtualSwitch` and the clause `bits` of `drives`.
use Rattle.std.proofs.Common.{◌≡◌, ℕ, zero, suc, ◌⊎◌, inl, inr, List, [], ◌∷◌, Option, Some, None, IfSome}
use Rattle.std.proofs.Common.{get_or, slice_set, replicate, refl, ap, subst}
use Rattle.std.proofs.lemmas.Option.{same_Some, none-some}
use Rattle.crossbar.specs.Row.{Row}
use Rattle.virtual_switch.specs.Driven.{IsDriven, AreDriven}

set_found : (masks : List (Option ℕ)) (place mask input other : ℕ)
    → get_or (slice_set masks place (Some mask)) input None ≡ Some other
    → ((place ≡ input) × (mask ≡ other)) ⊎ (get_or masks input None ≡ Some other)
set_found [] place mask input other found = inr found
set_found (first ∷ masks) zero mask zero other found = inl (refl, same_Some mask other found)
set_found (first ∷ masks) zero mask (suc input) other found = inr found
set_found (first ∷ masks) (suc place) mask zero other found = inr found
set_found (first ∷ masks) (suc place) mask (suc input) other found =
    elim (set_found masks place mask input other found) [ inl both ↦ inl (ap suc both.0, both.1) | inr was ↦ inr was ]

-- one mask more, of the input of its place
pub driven_with : (row : Row) (masks : List (Option ℕ)) (place mask : ℕ) → AreDriven row masks → IsDriven row place mask
    → AreDriven row (slice_set masks place (Some mask))
driven_with row masks place mask are is = record {
  each = λ input other found.
      elim (set_found masks place mask input other found) [
        | inl both ↦ subst (IsDriven row input) both.1 (subst (λ i. IsDriven row i mask) both.0 is)
        | inr was ↦ are.each input other was
      ];
}

nothing_found : (n input mask : ℕ) (A : Type 0)
    → get_or (replicate n (let none : Option ℕ = None in none)) input None ≡ Some mask → A
nothing_found zero input mask A found = absurd (none-some mask found)
nothing_found (suc n) zero mask A found = absurd (none-some mask found)
nothing_found (suc n) (suc input) mask A found = nothing_found n input mask A found

-- if nothing was asked, no mask is there
pub none_asked : (row : Row) → AreDriven row (replicate 32 None)
none_asked row = record { each = λ input mask found. nothing_found 32 input mask _ found }

each_of : (found : Option ℕ) (P : ℕ → Type 0) → ((mask : ℕ) → found ≡ Some mask → P mask) → IfSome found P
each_of None P given = tt
each_of (Some mask) P given = given mask refl

-- the mask of an input, if it is there, is its own
pub asked_at : (row : Row) (masks : List (Option ℕ)) (input : ℕ) → AreDriven row masks
    → IfSome (get_or masks input None) (IsDriven row input)
asked_at row masks input are = each_of (get_or masks input None) (IsDriven row input) (are.each input)

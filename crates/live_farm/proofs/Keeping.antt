-- What the records of all domains keep, one after another: the contract of `keep_rest`.
use Rattle.std.proofs.Common.{◌≡◌, ◌<◌, ℕ, ◌+◌, true, Ok, Err, inl, inr, refl, sym, subst, arith}
use Rattle.std.specs.Prelude.{OnOk, Result, is_ok}
use Rattle.std.proofs.Math.Nat.{eq-or-lt_of_le}

-- what holds of all numbers below one and of that one holds of all below the next
pub below_more : (P : ℕ → Type 0) (k : ℕ) → ((d : ℕ) → d < k → P d) → P k → (d : ℕ) → d < k + 1 → P d
below_more P k before here d less =
    elim (eq-or-lt_of_le {n = d} {m = k} (omega (arith, less))) [
      | inl same ↦ subst P (sym same) here
      | inr lower ↦ before d lower
    ]

-- what holds unless there was an error holds if there was none
pub if_ok : {A E X : Type 0} (outcome : Result A E) → OnOk outcome X → is_ok outcome ≡ true → X
if_ok (Ok a) holds ok = holds
if_ok (Err e) holds ok = absurd cc

-- and the other way round
pub on_ok : {A E X : Type 0} (outcome : Result A E) → (is_ok outcome ≡ true → X) → OnOk outcome X
on_ok (Ok a) holds = holds refl
on_ok (Err e) holds = tt

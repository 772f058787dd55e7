-- The way to the next multiple of a size, for statements that align what follows: the clause `put` of `put_statement`.
use Rattle.std.proofs.Common.{ℕ, ◌≡◌, ◌<◌, ◌+◌, ◌-◌, ◌*◌, ◌/◌, ◌%◌, Bool, true, false, cond, eqb, refl, ap, ◌∙◌, arith}
use Rattle.std.proofs.Math.Nat.{div-add-mod, mul-mod_left, mod-lt}
use Rattle.std.proofs.lemmas.Bool.Decides.{nat_tests}
use Rattle.t414_assembly.specs.Layout.{gap}

-- the way to the next multiple of a size is shorter than the size
pub gap_lt : (size address : ℕ) → 0 < size → gap size address < size
gap_lt size address some = go (eqb (address % size) 0) refl where
  go : (b : Bool) → eqb (address % size) 0 ≡ b → cond b 0 (size - address % size) < size
  go true h = some
  go false h = grind (arith, nat_tests)

-- after it the address is a multiple of the size
pub gap_reaches : (size address : ℕ) → 0 < size → (address + gap size address) % size ≡ 0
gap_reaches size address some = go (eqb (address % size) 0) refl where
  go : (b : Bool) → eqb (address % size) 0 ≡ b → (address + cond b 0 (size - address % size)) % size ≡ 0
  go true h =
      let same : address + 0 ≡ address = omega arith in
      let zero : address % size ≡ 0 = grind (arith, nat_tests) in
      ap (λ a. a % size) same ∙ zero
  go false h =
      let parts : size * (address / size) + address % size ≡ address = div-add-mod address size in
      let less : address % size < size = mod-lt address some in
      let whole : address + (size - address % size) ≡ (address / size + 1) * size = omega (arith, parts, less) in
      ap (λ a. a % size) whole ∙ mul-mod_left (address / size + 1) size

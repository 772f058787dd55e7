-- What is in a list and in one that was made of it, and one domain's own of a list, for the other lemmas of this
-- folder.
use Rattle.std.proofs.Common.{◌≡◌, ◌≢◌, inl, inr, ℕ, zero, suc, ◌<◌, true, false, Option, None, Some, List, [], ◌∷◌}
use Rattle.std.proofs.Common.{length, slice_get, slice_set, option_map, Contains, refl, sym, ap, ◌∙◌, arith, ◌==◌}
use Rattle.std.proofs.lemmas.Bool.{eq-eqb, ne_eqb}
use Rattle.std.proofs.lemmas.Option.{same_Some, none-some, slice_get-map, slice_get_within, slice_get_cases}
use Rattle.std.proofs.lemmas.Option.{get_or_from_slice_get, slice_get-get_or}
use Rattle.domain_core.specs.Domain.{DomainValue}
use Rattle.whole_farm.specs.Places.{Place}
use Rattle.whole_farm.specs.Projection.{own}
use Rattle.whole_farm.specs.Merges.{own_place}
use Rattle.whole_farm.specs.Values.{all_places}

-- ---- what is in a list

-- below the length of a list something is
pub there_is : {X : Type 0} (xs : List X) (i : ℕ) → i < length xs → (x : X) × (slice_get xs i ≡ Some x)
there_is xs i inside =
    elim (slice_get_cases xs i).1 [
      | inl found ↦ (found.0, found.2)
      | inr past ↦ absurd (omega (arith, past.0))
    ]

-- what is stored in a place is there
pub get-set_same : {X : Type 0} (xs : List X) (i : ℕ) (x y : X) → slice_get xs i ≡ Some y
    → slice_get (slice_set xs i x) i ≡ Some x
get-set_same [] i x y at = absurd (none-some y at)
get-set_same (z ∷ xs) zero x y at = refl
get-set_same (z ∷ xs) (suc i) x y at = get-set_same xs i x y at

-- storing in one place leaves the others
pub get-set_other : {X : Type 0} (xs : List X) (i j : ℕ) (x : X) → j ≢ i
    → slice_get (slice_set xs i x) j ≡ slice_get xs j
get-set_other [] i j x ne = refl
get-set_other (z ∷ xs) zero zero x ne = absurd (ne refl)
get-set_other (z ∷ xs) zero (suc j) x ne = refl
get-set_other (z ∷ xs) (suc i) zero x ne = refl
get-set_other (z ∷ xs) (suc i) (suc j) x ne = get-set_other xs i j x (λ e. ne (ap suc e))

-- a port that is in a list is one of its ports
pub contains_at : (ports : List ℕ) (v port : ℕ) → slice_get ports v ≡ Some port → Contains ports port
contains_at ports v port at = (v, slice_get_within ports v port at, get_or_from_slice_get ports v port port at)

-- a port among the ports is somewhere in their list
pub at_contained : (ports : List ℕ) (port : ℕ) → Contains ports port → (v : ℕ) × (slice_get ports v ≡ Some port)
at_contained ports port is = (is.0, slice_get-get_or ports is.0 port is.1 ∙ ap (λ (x : ℕ). Some x) is.2)

-- ---- the domain of a place

placed : (found : Option DomainValue) (place : Place) → option_map own_place found ≡ Some place
    → (d : DomainValue) × (found ≡ Some d) × (own_place d ≡ place)
placed None place is = absurd (none-some place is)
placed (Some d) place is = (d, refl, same_Some _ _ is)

-- a place of the domains is that of the domain at its number
pub domain_of : (domains : List DomainValue) (number : ℕ) (place : Place)
    → slice_get (all_places domains) number ≡ Some place
    → (d : DomainValue) × (slice_get domains number ≡ Some d) × (own_place d ≡ place)
domain_of domains number place at =
    placed (slice_get domains number) place (sym (slice_get-map own_place domains number) ∙ at)

-- ---- one domain's own

-- if the first value is the domain's, its own values begin with it
pub own-here : {X : Type 0} (domain : ℕ) (pair : ℕ × X) (xs : List (ℕ × X)) → pair.0 ≡ domain
    → own domain (pair ∷ xs) ≡ pair.1 ∷ own domain xs
own-here domain pair xs same = let test : (pair.0 == domain) ≡ true = eq-eqb _ _ same in rw test refl

-- if the first value is another domain's, the domain's own values are those of the rest
pub own-there : {X : Type 0} (domain : ℕ) (pair : ℕ × X) (xs : List (ℕ × X)) → pair.0 ≢ domain
    → own domain (pair ∷ xs) ≡ own domain xs
own-there domain pair xs ne = let test : (pair.0 == domain) ≡ false = ne_eqb _ _ ne in rw test refl

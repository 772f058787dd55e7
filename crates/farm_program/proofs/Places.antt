-- What lists have at their places.
use Rattle.std.proofs.Common.{◌≡◌, ◌<◌, ◌∙◌, ℕ, zero, suc, List, [], ◌∷◌, length, map, slice_get, Option, Some}
use Rattle.std.proofs.Common.{refl, sym, ap, arith}
use Rattle.std.specs.List.{range_with_len}
use Rattle.std.specs.Option.{unwrap_or, option_map}
use Rattle.std.proofs.lemmas.List.FromFn.{get_or-range_with_len, length-range_with_len}
use Rattle.std.proofs.lemmas.Option.{slice_get-map, slice_get-get_or}

-- two values are the same if one is there as the other
pub some_same : {A : Type 0} (x y : A) → Some x ≡ Some y → x ≡ y
some_same x y is = ap (λ (o : Option _). unwrap_or o x) is

-- what a list is made of, place by place
pub read_at : {A C : Type 0} (f : A → C) (xs : List A) (zs : List C) (i : ℕ) (x : A) (z : C)
    → map f xs ≡ zs → slice_get xs i ≡ Some x → slice_get zs i ≡ Some z
    → f x ≡ z
read_at f xs zs i x z are here there =
    some_same (f x) z
    (sym (ap (option_map f) here) ∙ sym (slice_get-map f xs i) ∙ ap (λ (ys : List _). slice_get ys i) are ∙ there)

-- what a list gives at a place
pub mapped : {A C : Type 0} (f : A → C) (xs : List A) (i : ℕ) (x : A) → slice_get xs i ≡ Some x
    → slice_get (map f xs) i ≡ Some (f x)
mapped f xs i x here = slice_get-map f xs i ∙ ap (option_map f) here

-- each place of a list has something
pub there_is : {A : Type 0} (xs : List A) (i : ℕ) → i < length xs → (x : A) × (slice_get xs i ≡ Some x)
there_is [] i less = absurd (omega arith)
there_is (x ∷ xs) zero less = (x, refl)
there_is (x ∷ xs) (suc i) less = there_is xs i (omega arith)

long_enough : (i n : ℕ) → i < n → i < length (range_with_len 0 n)
long_enough i n less = omega (arith, less, length-range_with_len 0 n)

-- the numbers from 0 on have each number at its place
pub counted : (i n : ℕ) → i < n → slice_get (range_with_len 0 n) i ≡ Some i
counted i n less =
    slice_get-get_or (range_with_len 0 n) i 0 (long_enough i n less)
    ∙ ap Some (get_or-range_with_len 0 n i 0 less ∙ omega arith)

-- two lists that give the same at each place give the same lists
pub same_lists : {A B C : Type 0} (f : A → C) (g : B → C) (xs : List A) (ys : List B)
    → length xs ≡ length ys
    → ((i : ℕ) (x : A) (y : B) → slice_get xs i ≡ Some x → slice_get ys i ≡ Some y → f x ≡ g y)
    → map f xs ≡ map g ys
same_lists f g [] [] count each = refl
same_lists f g [] (y ∷ ys) count each = absurd (omega (arith, count))
same_lists f g (x ∷ xs) [] count each = absurd (omega (arith, count))
same_lists f g (x ∷ xs) (y ∷ ys) count each =
    (λ k. each 0 x y refl refl k
    ∷ same_lists f g xs ys (omega (arith, count)) (λ i a b here there. each (suc i) a b here there) k)

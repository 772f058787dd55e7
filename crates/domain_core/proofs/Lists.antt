-- Lists that are changed from their front on, for the loops of `devices` that open and clear nodes and hosts.
use Rattle.std.proofs.Common.{◌≡◌, ℕ, zero, suc, ◌+◌, List, [], ◌∷◌, ◌++◌, length, map, replicate, set, get_or, refl}
use Rattle.std.proofs.Common.{ap, sym, ◌∙◌, add-one}
use Rattle.std.proofs.lemmas.List.{replicate_more}

-- the first members changed
abbrev pub changed_to : {A : Type 0} → (A → A) → ℕ → List A → List A
changed_to f zero xs = xs
changed_to f (suc i) [] = []
changed_to f (suc i) (x ∷ xs) = f x ∷ changed_to f i xs

changed_all : {A : Type 0} (f : A → A) (xs : List A) → changed_to f (length xs) xs ≡ map f xs
changed_all f [] = refl
changed_all f (x ∷ xs) = ap (λ (rest : List _). f x ∷ rest) (changed_all f xs)

changed_one : {A : Type 0} (f : A → A) (i : ℕ) (xs : List A) (x : A) → x ≡ get_or (changed_to f i xs) i x
    → set (changed_to f i xs) i (f x) ≡ changed_to f (suc i) xs
changed_one f zero [] x there = refl
changed_one f (suc i) [] x there = refl
changed_one f zero (y ∷ xs) x there = ap (λ (z : _). f z ∷ xs) there
changed_one f (suc i) (y ∷ xs) x there = ap (λ (rest : List _). f y ∷ rest) (changed_one f i xs x there)

-- if the first i elements are changed, changing the one at i changes one more
pub changed_more : {A : Type 0} (f : A → A) (i : ℕ) (xs items : List A) (x y : A)
    → items ≡ changed_to f i xs → x ≡ get_or items i x → y ≡ f x
    → set items i y ≡ changed_to f (i + 1) xs
changed_more f i xs items x y are there is =
    rw (are, is) (changed_one f i xs x (there ∙ ap (λ (l : List _). get_or l i x) are))
    ∙ ap (λ (k : ℕ). changed_to f k xs) (sym (add-one i))

-- once as many are changed as there are, all of them are
pub changed_whole : {A : Type 0} (f : A → A) (i : ℕ) (xs items : List A) → items ≡ changed_to f i xs → i ≡ length xs
    → items ≡ map f xs
changed_whole f i xs items are all = are ∙ ap (λ (k : ℕ). changed_to f k xs) all ∙ changed_all f xs

-- a list of one value, one for each member
pub map_const : {A B : Type 0} (y : B) (xs : List A) → map (λ (x : A). y) xs ≡ replicate (length xs) y
map_const y [] = refl
map_const y (x ∷ xs) = ap (λ (rest : List _). y ∷ rest) (map_const y xs)

-- copies of a value with one more after them are that many and one
pub one_more_of : {A : Type 0} (n : ℕ) (y : A) → replicate n y ++ y ∷ [] ≡ replicate (n + 1) y
one_more_of n y = replicate_more n y

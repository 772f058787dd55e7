-- Lists whose elements are related, each to the later ones, for the rules of a plan that compare ports, names and
-- ranges, and lists that a loop makes of another's items.
use Rattle.std.proofs.Common.{◌≡◌, ◌<◌, ◌≤◌, ◌+◌, ◌++◌, ℕ, suc, List, [], ◌∷◌, length, take, drop, get_or, refl, ap}
use Rattle.std.proofs.Common.{Bool, true, false, sym, subst, All, AllPairs, map, filter, flat_map, ◌∙◌, arith}
use Rattle.std.proofs.Common.{length-append}
use Rattle.std.proofs.lemmas.List.{take_more, take_all, map_more, flat_map_more, append_assoc, append-nil}
use Rattle.std.proofs.lemmas.List.{take-append-drop}
use Rattle.std.proofs.lemmas.List.Concat.{flat_map-cons}
use Rattle.std.proofs.lemmas.Grind.{flat_map-append}
use Rattle.std.proofs.lemmas.List.Elements.{filter_more, All-push, All-append, All-head, All-tail, All-cons, All-nil}
use Rattle.std.proofs.lemmas.List.Kept.{AllPairs-cons}

-- one more element that has the fact
pub all_more : {X : Type 0} (P : X → Type 0) (xs : List X) (i : ℕ) (y : X)
    → i < length xs → y ≡ get_or xs i y → All P (take i xs) → P y
    → All P (take (i + 1) xs)
all_more P xs i y within at_i before here = rw (take_more xs i y within, ← at_i) (All-push P (take i xs) y before here)

-- what holds of each element holds of the one at i
pub all_at : {X : Type 0} (P : X → Type 0) (xs : List X) (i : ℕ) (y : X) → i < length xs → y ≡ get_or xs i y
    → All P xs → P y
all_at P xs i y within at_i all = subst P (sym at_i) (all i y within)

-- what holds of each element of two lists in a row holds of each of the first
pub all_left : {X : Type 0} (P : X → Type 0) (xs ys : List X) → All P (xs ++ ys) → All P xs
all_left P [] ys given = All-nil P
all_left P (x ∷ xs) ys given = All-cons P x xs (All-head P x (xs ++ ys) given)
    (all_left P xs ys (All-tail P x (xs ++ ys) given))

-- what holds of each element of two lists in a row holds of each of the second
pub all_right : {X : Type 0} (P : X → Type 0) (xs ys : List X) → All P (xs ++ ys) → All P ys
all_right P [] ys given = given
all_right P (x ∷ xs) ys given = all_right P xs ys (All-tail P x (xs ++ ys) given)

-- a fact of all elements of all lists
pub all_lists : {D X : Type 0} (P : X → Type 0) (make : D → List X) (ds : List D) → All P (flat_map make ds)
    → All (λ d. All P (make d)) ds
all_lists P make [] given = All-nil (λ d. All P (make d))
all_lists P make (d ∷ ds) given =
    let h' = rw (flat_map-cons make d ds) at given in
    All-cons (λ e. All P (make e)) d ds (all_left P (make d) (flat_map make ds) h')
    (all_lists P make ds (all_right P (make d) (flat_map make ds) h'))

-- what holds of each element of each list holds of each element of all of them in a row
pub all_joined : {D X : Type 0} (P : X → Type 0) (make : D → List X) (ds : List D) → All (λ d. All P (make d)) ds
    → All P (flat_map make ds)
all_joined P make [] given = All-nil P
all_joined P make (d ∷ ds) given =
    rw (flat_map-cons make d ds)
    (All-append P (make d) (flat_map make ds) (All-head (λ e. All P (make e)) d ds given)
    (all_joined P make ds (All-tail (λ e. All P (make e)) d ds given)))

-- if each element is related to the later ones, the first is to the rest
pub pairs_head : {X : Type 0} (R : X → X → Type 0) (x : X) (xs : List X) → AllPairs R (x ∷ xs) → All (R x) xs
pairs_head R x xs given k d less = given 0 (suc k) d (omega arith) (omega arith)

-- if each element is related to the later ones, so is each of the rest
pub pairs_tail : {X : Type 0} (R : X → X → Type 0) (x : X) (xs : List X) → AllPairs R (x ∷ xs) → AllPairs R xs
pairs_tail R x xs given i j d less within = given (suc i) (suc j) d (omega arith) (omega arith)

-- the empty list has no two elements to relate
pub pairs_nil : {X : Type 0} (R : X → X → Type 0) → AllPairs R []
pairs_nil R i j d less within = absurd (omega arith)

-- if each element of two lists in a row is related to the later ones, so is each of the first list
pub pairs_left : {X : Type 0} (R : X → X → Type 0) (xs ys : List X) → AllPairs R (xs ++ ys) → AllPairs R xs
pairs_left R [] ys given = pairs_nil R
pairs_left R (x ∷ xs) ys given =
    AllPairs-cons R x xs (all_left (R x) xs ys (pairs_head R x (xs ++ ys) given))
    (pairs_left R xs ys (pairs_tail R x (xs ++ ys) given))

-- if each element of two lists in a row is related to the later ones, so is each of the second list
pub pairs_right : {X : Type 0} (R : X → X → Type 0) (xs ys : List X) → AllPairs R (xs ++ ys) → AllPairs R ys
pairs_right R [] ys given = given
pairs_right R (x ∷ xs) ys given = pairs_right R xs ys (pairs_tail R x (xs ++ ys) given)

-- each of the later elements is related to each of the earlier ones
pub pairs_across : {X : Type 0} (R : X → X → Type 0) (xs ys : List X) → AllPairs R (xs ++ ys)
    → All (λ y. All (λ x. R x y) xs) ys
pairs_across R [] ys given k d less = All-nil (λ x. R x (get_or ys k d))
pairs_across R (x ∷ xs) ys given k d less =
    All-cons (λ z. R z (get_or ys k d)) x xs (all_right (R x) xs ys (pairs_head R x (xs ++ ys) given) k d less)
    (pairs_across R xs ys (pairs_tail R x (xs ++ ys) given) k d less)

-- two related lists in a row are related, if each element of the first is related to each of the second
pub pairs_append : {X : Type 0} (R : X → X → Type 0) (xs ys : List X)
    → AllPairs R xs → AllPairs R ys → All (λ y. All (λ x. R x y) xs) ys
    → AllPairs R (xs ++ ys)
pairs_append R [] ys first second across = second
pairs_append R (x ∷ xs) ys first second across =
    AllPairs-cons R x (xs ++ ys)
    (All-append (R x) xs ys (pairs_head R x xs first)
    (λ k d less. All-head (λ z. R z (get_or ys k d)) x xs (across k d less)))
    (pairs_append R xs ys (pairs_tail R x xs first) second
    (λ k d less. All-tail (λ z. R z (get_or ys k d)) x xs (across k d less)))

-- the elements of one list are new after those of the lists before it
abbrev pub AreNew : {D X : Type 0} → (X → X → Type 0) → (D → List X) → List D → List X → Type 0
AreNew R make ds ys = All (λ d. All (λ y. All (λ x. R x y) (make d)) ys) ds

-- the lists up to one more
flat_map_at : {D X : Type 0} (make : D → List X) (ds : List D) (i : ℕ) (d : D) → i < length ds → d ≡ get_or ds i d
    → flat_map make (take (i + 1) ds) ≡ flat_map make (take i ds) ++ make d
flat_map_at make ds i d within at_i =
    rw (
      take_more ds i d within,
      ← at_i,
      flat_map-append make (take i ds) (d ∷ []),
      flat_map-cons make d [],
      append-nil (make d),
    )
    refl

-- if the lists of the first i items are related in a row, and the next list is and is new, so are those of i + 1
pub lists_more : {D X : Type 0} (R : X → X → Type 0) (make : D → List X) (ds : List D) (i : ℕ) (d : D) → i < length ds
    → d ≡ get_or ds i d
    → AllPairs R (flat_map make (take i ds)) → AllPairs R (make d) → AreNew R make (take i ds) (make d)
    → AllPairs R (flat_map make (take (i + 1) ds))
lists_more R make ds i d within at_i before here new =
    rw (flat_map_at make ds i d within at_i)
    (pairs_append R (flat_map make (take i ds)) (make d) before here
    (λ k e less. all_joined (λ x. R x (get_or (make d) k e)) make (take i ds) (λ j a below. new j a below k e less)))

-- if the lists of all items are related in a row, each of them is, and is new after those before it
pub lists_at : {D X : Type 0} (R : X → X → Type 0) (make : D → List X) (ds : List D) (i : ℕ) (d : D) → i < length ds
    → d ≡ get_or ds i d
    → AllPairs R (flat_map make ds) → AllPairs R (make d) × AreNew R make (take i ds) (make d)
lists_at R make ds i d within at_i all =
    let parts : flat_map make ds ≡ flat_map make (take (i + 1) ds) ++ flat_map make (drop (i + 1) ds) =
    ap (flat_map make) (sym (take-append-drop (i + 1) ds)) ∙ flat_map-append make (take (i + 1) ds) (drop (i + 1) ds) in
    let until =
    pairs_left R (flat_map make (take (i + 1) ds)) (flat_map make (drop (i + 1) ds)) (subst (AllPairs R) parts all) in
    let until' = subst (AllPairs R) (flat_map_at make ds i d within at_i) until in
    let across = pairs_across R (flat_map make (take i ds)) (make d) until' in (
      pairs_right R (flat_map make (take i ds)) (make d) until',
      λ j a below k e less. all_lists (λ x. R x (get_or (make d) k e)) make (take i ds) (across k e less) j a below,
    )

-- one more element, to which the earlier ones are related
pub pairs_more : {X : Type 0} (R : X → X → Type 0) (xs : List X) (i : ℕ) (y : X) → i < length xs → y ≡ get_or xs i y
    → AllPairs R (take i xs) → All (λ x. R x y) (take i xs) → AllPairs R (take (i + 1) xs)
pairs_more R xs i y within at_i before here =
    rw (take_more xs i y within, ← at_i)
    (pairs_append R (take i xs) (y ∷ []) before (AllPairs-cons R y [] (All-nil (R y)) (pairs_nil R))
    (All-cons (λ z. All (λ x. R x z) (take i xs)) y [] here (All-nil (λ z. All (λ x. R x z) (take i xs)))))

-- the earlier elements are related to this one
pub pairs_at : {X : Type 0} (R : X → X → Type 0) (xs : List X) (i : ℕ) (y : X)
    → i < length xs → y ≡ get_or xs i y → AllPairs R xs
    → All (λ x. R x y) (take i xs)
pairs_at R xs i y within at_i all =
    let parts = subst (AllPairs R) (sym (take-append-drop (i + 1) xs)) all in
    let until = pairs_left R (take (i + 1) xs) (drop (i + 1) xs) parts in
    let until' = rw (take_more xs i y within, ← at_i) at until in
    All-head (λ z. All (λ x. R x z) (take i xs)) y [] (pairs_across R (take i xs) (y ∷ []) until')

-- the lists up to one more are no longer than all
pub length_until : {D X : Type 0} (make : D → List X) (ds : List D) (i : ℕ) (d : D) → i < length ds → d ≡ get_or ds i d
    → length (flat_map make (take i ds)) + length (make d) ≤ length (flat_map make ds)
length_until make ds i d within at_i =
    let parts : flat_map make ds ≡ flat_map make (take (i + 1) ds) ++ flat_map make (drop (i + 1) ds) =
    ap (flat_map make) (sym (take-append-drop (i + 1) ds)) ∙ flat_map-append make (take (i + 1) ds) (drop (i + 1) ds) in
    let until = flat_map_at make ds i d within at_i in
    let e1 = ap length parts ∙ length-append (flat_map make (take (i + 1) ds)) (flat_map make (drop (i + 1) ds)) in
    let e2 = ap length until ∙ length-append (flat_map make (take i ds)) (make d) in
    omega (arith, e1, e2)

-- the elements of each list are related
pub lists_each : {D X : Type 0} (R : X → X → Type 0) (make : D → List X) (ds : List D) → AllPairs R (flat_map make ds)
    → All (λ d. AllPairs R (make d)) ds
lists_each R make [] all = All-nil (λ d. AllPairs R (make d))
lists_each R make (d ∷ ds) all =
    let all' = rw (flat_map-cons make d ds) at all in
    All-cons (λ d. AllPairs R (make d)) d ds (pairs_left R (make d) (flat_map make ds) all')
    (lists_each R make ds (pairs_right R (make d) (flat_map make ds) all'))

-- the elements of each list are related to those of each later one
pub lists_across : {D X : Type 0} (R : X → X → Type 0) (make : D → List X) (ds : List D) → AllPairs R (flat_map make ds)
    → AllPairs (λ d e. All (λ y. All (λ x. R x y) (make d)) (make e)) ds
lists_across R make [] all = pairs_nil (λ d e. All (λ y. All (λ x. R x y) (make d)) (make e))
lists_across R make (d ∷ ds) all =
    let all' = rw (flat_map-cons make d ds) at all in
    AllPairs-cons (λ d e. All (λ y. All (λ x. R x y) (make d)) (make e)) d ds
    (all_lists (λ y. All (λ x. R x y) (make d)) make ds (pairs_across R (make d) (flat_map make ds) all'))
    (lists_across R make ds (pairs_right R (make d) (flat_map make ds) all'))

-- if the list of a single item is related, so are the lists of all items in a row
pub pairs_alone : {D X : Type 0} (R : X → X → Type 0) (make : D → List X) (d : D) → AllPairs R (make d)
    → AllPairs R (flat_map make (d ∷ []))
pairs_alone R make d given = rw (flat_map-cons make d [], append-nil (make d)) given

-- if the lists in a row of a single item are related, so is its list
pub pairs_of_one : {D X : Type 0} (R : X → X → Type 0) (make : D → List X) (d : D) → AllPairs R (flat_map make (d ∷ []))
    → AllPairs R (make d)
pairs_of_one R make d given = All-head (λ d. AllPairs R (make d)) d [] (lists_each R make (d ∷ []) given)

-- one more item, after the values of those before it
pub mapped_more : {X Y : Type 0} (f : X → Y) (xs : List X) (i : ℕ) (x : X) (ys : List Y) → i < length xs
    → ys ≡ map f (take i xs)
    → ys ++ f (get_or xs i x) ∷ [] ≡ map f (take (i + 1) xs)
mapped_more f xs i x ys within so_far = rw (map_more f xs i x within, so_far) refl

-- the values of one more item, after other values and those of the items before it
pub added_more : {X A : Type 0} (make : X → List A) (front : List A) (xs : List X) (i : ℕ) (x : X) (ys : List A)
    → i < length xs → ys ≡ front ++ flat_map make (take i xs)
    → ys ++ make (get_or xs i x) ≡ front ++ flat_map make (take (i + 1) xs)
added_more make front xs i x ys within so_far =
    rw (take_more xs i x within, so_far) (flat_map_more make front (take i xs) (get_or xs i x))

-- what holds up to an index past the end holds of the whole list
pub at_end : {X Y : Type 0} (shown : List X → Y) (xs : List X) (i : ℕ) (y : Y) → length xs ≤ i → y ≡ shown (take i xs)
    → y ≡ shown xs
at_end shown xs i y past so_far = so_far ∙ ap shown (take_all i xs past)

-- one more item, after other values and those of the items before it
pub mapped_behind : {X Y : Type 0} (f : X → Y) (front : List Y) (xs : List X) (i : ℕ) (x : X) (ys : List Y)
    → i < length xs → ys ≡ front ++ map f (take i xs)
    → ys ++ f (get_or xs i x) ∷ [] ≡ front ++ map f (take (i + 1) xs)
mapped_behind f front xs i x ys within so_far =
    rw (map_more f xs i x within, so_far) (append_assoc front (map f (take i xs)) (f (get_or xs i x) ∷ []))

-- one more item that passes the test, after other values and the items before it that pass
pub kept_behind : {X : Type 0} (p : X → Bool) (front xs : List X) (i : ℕ) (x : X) (ys : List X) → i < length xs
    → ys ≡ front ++ filter p (take i xs) → p (get_or xs i x) ≡ true
    → ys ++ get_or xs i x ∷ [] ≡ front ++ filter p (take (i + 1) xs)
kept_behind p front xs i x ys within so_far passes =
    rw (filter_more p xs i x within, passes, so_far)
    (append_assoc front (filter p (take i xs)) (get_or xs i x ∷ []))

-- one more item that fails the test, after other values and the items before it that pass
pub left_out : {X : Type 0} (p : X → Bool) (front xs : List X) (i : ℕ) (x : X) (ys : List X) → i < length xs
    → ys ≡ front ++ filter p (take i xs) → p (get_or xs i x) ≡ false
    → ys ≡ front ++ filter p (take (i + 1) xs)
left_out p front xs i x ys within so_far fails =
    rw (filter_more p xs i x within, fails, append-nil (filter p (take i xs))) so_far

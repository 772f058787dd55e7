-- Members of a list that are changed one after another: the contract of `list_histories`, and the clause `sessions` of
-- `begin_anew`. At the end the users of a domain: the contract of `domain_of_all`.
use Rattle.std.proofs.Common.{◌≡◌, ℕ, zero, suc, ◌+◌, ◌<◌, List, [], ◌∷◌, length, map, set, get_or, refl}
use Rattle.std.proofs.Common.{ap, sym, ◌∙◌, subst, add-one, arith, None, slice_get}
use Rattle.std.proofs.lemmas.Option.{slice_get_within, get_or_from_slice_get, none-some}
use Rattle.plan_rules.specs.Data.{DomainData}
use Rattle.plan_rules.specs.Separate.{IsFrom, Rule}
use Rattle.plan_rules.specs.declared.fault.PlanFault.TheVariants.{UserCount}
use Rattle.farm_service.specs.Passes.{SessionValue}
use Rattle.farm_service.specs.Restarts.{AreAllOf, AreAllOfOne}

-- the list with its first members changed
abbrev pub changed_to : {A : Type 0} → (A → A) → ℕ → List A → List A
changed_to f zero xs = xs
changed_to f (suc i) [] = []
changed_to f (suc i) (x ∷ xs) = f x ∷ changed_to f i xs

changed_all : {A : Type 0} (f : A → A) (xs : List A) → changed_to f (length xs) xs ≡ map f xs
changed_all f [] = refl
changed_all f (x ∷ xs) = ap (λ (rest : List _). f x ∷ rest) (changed_all f xs)

changed_one : {A : Type 0} (f : A → A) (i : ℕ) (xs : List A) (x : A) → x ≡ get_or (changed_to f i xs) i x
    → set (changed_to f i xs) i (f x) ≡ changed_to f (suc i) xs
changed_one f zero [] x there = refl
changed_one f (suc i) [] x there = refl
changed_one f zero (y ∷ xs) x there = ap (λ (z : _). f z ∷ xs) there
changed_one f (suc i) (y ∷ xs) x there = ap (λ (rest : List _). f y ∷ rest) (changed_one f i xs x there)

-- if the first members are changed, and then the next, one more is changed
pub changed_more : {A : Type 0} (f : A → A) (i : ℕ) (xs items : List A) (x y : A)
    → items ≡ changed_to f i xs → x ≡ get_or items i x → y ≡ f x
    → set items i y ≡ changed_to f (i + 1) xs
changed_more f i xs items x y are there is =
    rw (are, is) (changed_one f i xs x (there ∙ ap (λ (l : List _). get_or l i x) are))
    ∙ ap (λ (k : ℕ). changed_to f k xs) (sym (add-one i))

-- if as many members are changed as there are, all are
pub changed_whole : {A : Type 0} (f : A → A) (i : ℕ) (xs items : List A) → items ≡ changed_to f i xs → i ≡ length xs
    → items ≡ map f xs
changed_whole f i xs items are all = are ∙ ap (λ (k : ℕ). changed_to f k xs) all ∙ changed_all f xs

-- ---- all users of a domain

-- a domain that has exactly these users is one of the plan
pub all_within : (plan : List DomainData) (number : ℕ) (sessions : List SessionValue) → AreAllOf plan number sessions
    → number < length plan
all_within plan number sessions all = slice_get_within plan number all.domain all.there

no_first : (xs : List SessionValue) → slice_get xs 0 ≡ None → length xs ≡ 0
no_first [] none = refl
no_first (x ∷ xs) none = absurd (none-some x (sym none))

-- no sessions aren't all users of a domain, since each domain has a user
pub some_user : (plan : List DomainData) (sessions : List SessionValue)
    → Rule UserCount plan → slice_get sessions 0 ≡ None → AreAllOfOne plan sessions
    → ⊥
some_user plan sessions rule none (number, all) =
    let users : IsFrom 1 4 (length all.domain.users) =
    subst (λ (d : DomainData). IsFrom 1 4 (length d.users))
    (get_or_from_slice_get plan number all.domain all.domain all.there)
    (rule number all.domain (all_within plan number sessions all)) in
    let count : 0 ≡ length all.domain.users = sym (no_first sessions none) ∙ all.count in
    omega (arith, users.0, count)

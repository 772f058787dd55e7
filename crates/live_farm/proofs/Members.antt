-- What holds of each member of a list by its place: the invariants `theirs` and `named` of `UserGroup`.
use Rattle.std.proofs.Common.{◌≡◌, ◌<◌, ℕ, zero, suc, List, [], ◌∷◌, ◌++◌, Some, Ok, Err, length, map, set, take, slice_get, refl, sym, subst, ap, ◌∙◌, arith, false}
use Rattle.std.specs.Prelude.{IfOk, IfErr, Result, is_ok}
use Rattle.domain_core.specs.declared.event.Refusal.{Refusal}
use Rattle.domain_core.specs.declared.event.Refusal.TheVariants.{NoSuch}
use Rattle.farm_service.specs.Passes.{SessionValue}
use Rattle.farm_service.specs.Restarts.{AreInOrder, begun_anew}
use Rattle.line_answers.specs.Sessions.{GainsSome}

-- there is a member at each place within the length
pub member_at : {A : Type 0} (xs : List A) (k : ℕ) → k < length xs → (a : A) × (slice_get xs k ≡ Some a)
member_at [] k less = absurd (omega (arith, less))
member_at (x ∷ xs) zero less = (x, refl)
member_at (x ∷ xs) (suc k) less = member_at xs k (omega (arith, less))

-- of a list with one more at its end
pub each_more : {A : Type 0} (P : ℕ → A → Type 0) (xs : List A) (x : A)
    → ((k : ℕ) (a : A) → slice_get xs k ≡ Some a → P k a) → P (length xs) x
    → (k : ℕ) (a : A) → slice_get (xs ++ x ∷ []) k ≡ Some a → P k a
each_more P [] x each last zero a is = let same : x ≡ a = cc in subst (λ v. P 0 v) same last
each_more P [] x each last (suc k) a is = absurd cc
each_more P (y ∷ xs) x each last zero a is = each 0 a is
each_more P (y ∷ xs) x each last (suc k) a is =
    each_more (λ n v. P (suc n) v) xs x (λ n v. each (suc n) v) last k a is

-- of a list with another member at one place
pub each_set : {A : Type 0} (P : ℕ → A → Type 0) (xs : List A) (i : ℕ) (x : A)
    → ((k : ℕ) (a : A) → slice_get xs k ≡ Some a → P k a) → P i x
    → (k : ℕ) (a : A) → slice_get (set xs i x) k ≡ Some a → P k a
each_set P [] i x each here k a is = each k a is
each_set P (y ∷ xs) zero x each here zero a is = let same : x ≡ a = cc in subst (λ v. P 0 v) same here
each_set P (y ∷ xs) zero x each here (suc k) a is = each (suc k) a is
each_set P (y ∷ xs) (suc i) x each here zero a is = each 0 a is
each_set P (y ∷ xs) (suc i) x each here (suc k) a is =
    each_set (λ n v. P (suc n) v) xs i x (λ n v. each (suc n) v) here k a is

-- of a list whose members are all changed
pub each_map : {A B : Type 0} (P : ℕ → B → Type 0) (f : A → B) (xs : List A)
    → ((k : ℕ) (a : A) → slice_get xs k ≡ Some a → P k (f a))
    → (k : ℕ) (b : B) → slice_get (map f xs) k ≡ Some b → P k b
each_map P f [] each k b is = absurd cc
each_map P f (x ∷ xs) each zero b is = let same : f x ≡ b = cc in subst (λ v. P 0 v) same (each 0 x refl)
each_map P f (x ∷ xs) each (suc k) b is = each_map (λ n v. P (suc n) v) f xs (λ n v. each (suc n) v) k b is

-- a list and anything after it has the list as its beginning
pub take_front : {A : Type 0} (n : ℕ) (xs ys : List A) → length xs ≡ n → take n (xs ++ ys) ≡ xs
take_front zero [] ys is = refl
take_front zero (x ∷ xs) ys is = absurd (omega (arith, is))
take_front (suc n) [] ys is = absurd (omega (arith, is))
take_front {A = A} (suc n) (x ∷ xs) ys is = ap (λ (l : List A). x ∷ l) (take_front n xs ys (omega (arith, is)))

length_map : {A B : Type 0} (f : A → B) (xs : List A) → length (map f xs) ≡ length xs
length_map f [] = refl
length_map f (x ∷ xs) = ap (λ (n : ℕ). suc n) (length_map f xs)

-- there are as many sessions if all begin again, or none does
pub as_many_after : {A : Type 0} (outcome : Result A Refusal) (old new : List SessionValue)
    → IfOk outcome (λ _. new ≡ map begun_anew old)
    → IfErr outcome (λ refusal. (refusal ≡ NoSuch) × (new ≡ old))
    → length new ≡ length old
as_many_after (Ok x) old new done same =
    ap (λ (ss : List SessionValue). length ss) done ∙ length_map begun_anew old
as_many_after (Err e) old new done same = ap (λ (ss : List SessionValue). length ss) same.1

-- what follows from a refusal of `NoSuch` holds if a call isn't Ok
pub if_refused : {A P : Type 0} (outcome : Result A Refusal) (old new : List SessionValue) → is_ok outcome ≡ false
    → IfErr outcome (λ refusal. (refusal ≡ NoSuch) × (new ≡ old)) → (outcome ≡ Err NoSuch → P) → P
if_refused (Ok x) old new is same holds = absurd cc
if_refused (Err e) old new is same holds = holds (ap (λ (r : Refusal). Err r) same.0)

-- sessions stay in order if all begin again, or none does
pub in_order_after : {A : Type 0} (outcome : Result A Refusal) (number : ℕ) (old new : List SessionValue)
    → IfOk outcome (λ _. new ≡ map begun_anew old)
    → IfErr outcome (λ refusal. (refusal ≡ NoSuch) × (new ≡ old))
    → AreInOrder number old
    → AreInOrder number new
in_order_after (Ok x) number old new done same order =
    subst (λ (sessions : List SessionValue). AreInOrder number sessions) (sym done)
    (each_map (λ (k : ℕ) (s : SessionValue). (s.pass.domain ≡ number) × (s.pass.user ≡ k)) begun_anew old order)
in_order_after (Err e) number old new done same order =
    subst (λ (sessions : List SessionValue). AreInOrder number sessions) (sym same.1) order

-- and if the session of one user gains what the user was answered
pub in_order_set : (number place : ℕ) (sessions : List SessionValue) (s t : SessionValue)
    → slice_get sessions place ≡ Some s → GainsSome s t → AreInOrder number sessions
    → AreInOrder number (set sessions place t)
in_order_set number place sessions s t there (told, gained) order =
    let is = order place s there in
    each_set (λ (k : ℕ) (v : SessionValue). (v.pass.domain ≡ number) × (v.pass.user ≡ k)) sessions place t order (
      ap (λ (v : SessionValue). v.pass.domain) gained.list ∙ is.0,
      ap (λ (v : SessionValue). v.pass.user) gained.list ∙ is.1,
    )

-- and if the session of the next user is added
pub in_order_more : (number : ℕ) (sessions : List SessionValue) (s : SessionValue)
    → s.pass.domain ≡ number → s.pass.user ≡ length sessions → AreInOrder number sessions
    → AreInOrder number (sessions ++ s ∷ [])
in_order_more number sessions s domain user order =
    each_more (λ (k : ℕ) (v : SessionValue). (v.pass.domain ≡ number) × (v.pass.user ≡ k)) sessions s order
    (domain, user)

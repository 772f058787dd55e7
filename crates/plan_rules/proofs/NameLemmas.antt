-- The names of a plan, one domain and one user after another: the contracts of `add_names` and `names`.
use Rattle.std.proofs.Common.{◌≡◌, ◌<◌, ◌+◌, ℕ, zero, suc, List, [], ◌∷◌, ◌++◌, Bor, length}
use Rattle.std.proofs.Common.{map, take, get_or, slice_get, Option, Some, None, IfSome}
use Rattle.std.proofs.Common.{refl, sym, ap, ◌∙◌, subst, arith, append_assoc}
use Rattle.std.specs.List.{flat_map}
use Rattle.std.proofs.lemmas.List.{append-nil, map-append, take_more}
use Rattle.std.proofs.lemmas.Grind.{flat_map-append}
use Rattle.std.proofs.lemmas.Option.{slice_get_within, get_or_from_slice_get}
use Rattle.plan_rules.specs.Data.{DomainData, UserData}
use Rattle.plan_rules.specs.Users.{all_names}

-- a list has an item at each place before its end
pub there_is : {A : Type 0} (xs : List A) (i : ℕ) → i < length xs → (x : A) × (slice_get xs i ≡ Some x)
there_is [] i less = absurd (omega arith)
there_is (x ∷ xs) zero less = (x, refl)
there_is (x ∷ xs) (suc i) less = there_is xs i (omega arith)

-- the names of the first users, with that of the next one
more_of : (users : List UserData) (user : ℕ) (u : UserData) → slice_get users user ≡ Some u
    → map (λ v. v.name) (take (user + 1) users) ≡ map (λ v. v.name) (take user users) ++ u.name ∷ []
more_of users user u at =
    let within = slice_get_within users user u at in
    ap (map (λ (v : UserData). v.name)) (take_more users user u within)
    ∙ map-append (λ (v : UserData). v.name) (take user users) (get_or users user u ∷ [])
    ∙ ap (λ (v : UserData). map (λ (w : UserData). w.name) (take user users) ++ v.name ∷ [])
    (get_or_from_slice_get users user u u at)

-- names that are those of a domain's first users, with the next user's, are those of one user more
pub name_more : (found : Option DomainData) (names more : List (Bor (List ℕ))) (start : List (List ℕ))
    (user : ℕ) (name : Bor (List ℕ))
    → IfSome found (λ d. user < length d.users)
    → IfSome found (λ d. IfSome (slice_get d.users user) (λ u. name.now ≡ u.name)) → more ≡ names ++ name ∷ []
    → IfSome found (λ d. map (λ n. n.now) names ≡ start ++ map (λ u. u.name) (take user d.users))
    → IfSome found (λ d. map (λ n. n.now) more ≡ start ++ map (λ u. u.name) (take (user + 1) d.users))
name_more None names more start user name within named is before = tt
name_more (Some d) names more start user name within named is before =
    let at : (u : UserData) × (slice_get d.users user ≡ Some u) = there_is d.users user within in
    let named_so : name.now ≡ at.0.name =
    subst (λ (found : Option UserData). IfSome found (λ u. name.now ≡ u.name)) at.1 named in
    ap (map (λ (n : Bor (List ℕ)). n.now)) is
    ∙ map-append (λ (n : Bor (List ℕ)). n.now) names (name ∷ [])
    ∙ (λ k. before k ++ named_so k ∷ [])
    ∙ append_assoc start (map (λ (u : UserData). u.name) (take user d.users)) (at.0.name ∷ [])
    ∙ ap (λ (ns : List (List ℕ)). start ++ ns) (sym (more_of d.users user at.0 at.1))

-- the names in the first domains, with those in the next one
names_of_more : (plan : List DomainData) (i : ℕ) (d : DomainData) → slice_get plan i ≡ Some d
    → all_names (take (i + 1) plan) ≡ all_names (take i plan) ++ map (λ u. u.name) d.users
names_of_more plan i d at =
    let within = slice_get_within plan i d at in
    ap all_names (take_more plan i d within)
    ∙ ap (λ (e : DomainData). all_names (take i plan ++ e ∷ [])) (get_or_from_slice_get plan i d d at)
    ∙ ap (map (λ (u : UserData). u.name)) (flat_map-append (λ (e : DomainData). e.users) (take i plan) (d ∷ []))
    ∙ ap (λ (us : List UserData). map (λ (u : UserData). u.name)
    (flat_map (λ (e : DomainData). e.users) (take i plan) ++ us))
    (append-nil d.users)
    ∙ map-append (λ (u : UserData). u.name) (flat_map (λ (e : DomainData). e.users) (take i plan)) d.users

-- names of the first domains, with those of the next domain, are those of one domain more
pub domain_names : (plan : List DomainData) (i : ℕ) (names more : List (Bor (List ℕ)))
    → i < length plan → map (λ n. n.now) names ≡ all_names (take i plan)
    → IfSome (slice_get plan i) (λ d. map (λ n. n.now) more ≡ map (λ n. n.now) names ++ map (λ u. u.name) d.users)
    → map (λ n. n.now) more ≡ all_names (take (i + 1) plan)
domain_names plan i names more within before step =
    let at = there_is plan i within in
    let stepped =
    subst (λ (found : Option DomainData).
    IfSome found (λ d. map (λ n. n.now) more ≡ map (λ n. n.now) names ++ map (λ u. u.name) d.users))
    at.1 step in
    stepped ∙ ap (λ (ns : List (List ℕ)). ns ++ map (λ (u : UserData). u.name) at.0.users) before
    ∙ sym (names_of_more plan i at.0 at.1)

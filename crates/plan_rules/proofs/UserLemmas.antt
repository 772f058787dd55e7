-- Users by their names, one domain and one user after another: the contracts of `user_in` and `user_named`.
use Rattle.std.proofs.Common.{◌≡◌, ◌≢◌, ◌<◌, ◌≤◌, ◌+◌, ◌∙◌, ℕ, List, Option, Some, None, IfSome, refl, sym, ap, subst, arith, length, slice_get, inl, inr}
use Rattle.std.specs.Prelude.{⊤, option_map, option_and_then, MatchOption}
use Rattle.std.proofs.lemmas.Bool.{cases_lt}
use Rattle.std.proofs.lemmas.Option.{slice_get_within}
use Rattle.plan_rules.specs.Data.{DomainData, UserData}
use Rattle.plan_rules.specs.declared.users.UserNumber.{UserNumber}
use Rattle.plan_rules.specs.Users.{name_in, name_at}
use Rattle.plan_rules.proofs.NameLemmas.{there_is}

-- what an option has, or else this
abbrev content : {A : Type 0} → A → Option A → A
content a None = a
content a (Some b) = b

-- options are the same only if what they have is
same_content : {A : Type 0} (a b : A) → Some a ≡ Some b → a ≡ b
same_content a b same = ap (content a) same

-- an option that has something is not the one that has nothing
abbrev has_something : {A : Type 0} → Option A → Type 0
has_something None = ⊥
has_something (Some a) = ⊤

-- nothing isn't something
nothing_is_none : {A : Type 0} (a : A) → None ≢ Some a
nothing_is_none a same = subst has_something (sym same) tt

-- the name of a user, if there is one
abbrev name_of : Option UserData → Option (List ℕ)
name_of found = option_map (λ u. u.name) found

-- a user of another name hasn't this one
has_other_name : (found : Option UserData) (name text : List ℕ) → IfSome found (λ u. text ≡ u.name) → text ≢ name
    → name_of found ≢ Some name
has_other_name None name text named other same = nothing_is_none name same
has_other_name (Some u) name text named other same = other (named ∙ same_content u.name name same)

-- the user of this number has this name
pub has_name : (found : Option DomainData) (name text : List ℕ) (user : ℕ)
    → IfSome found (λ d. user < length d.users)
    → IfSome found (λ d. IfSome (slice_get d.users user) (λ u. text ≡ u.name)) → text ≡ name
    → IfSome found (λ d. name_in d user ≡ Some name)
has_name None name text user within named same = tt
has_name (Some d) name text user within named same =
    let at : (u : UserData) × (slice_get d.users user ≡ Some u) = there_is d.users user within in
    let is : text ≡ at.0.name = subst (λ (found : Option UserData). IfSome found (λ u. text ≡ u.name)) at.1 named in
    ap name_of at.1 ∙ ap Some (sym is ∙ same)

-- if the next user has another name, nobody up to that user has the name
pub others_have_other_names : (found : Option DomainData) (name text : List ℕ) (user : ℕ)
    → ((k : ℕ) → k < user → IfSome found (λ d. name_in d k ≢ Some name))
    → IfSome found (λ d. IfSome (slice_get d.users user) (λ u. text ≡ u.name)) → text ≢ name
    → (k : ℕ) → k < user + 1 → IfSome found (λ d. name_in d k ≢ Some name)
others_have_other_names None name text user before named other k less = tt
others_have_other_names (Some d) name text user before named other k less =
    elim (cases_lt k user) [
      | inl below ↦ before k below
      | inr past ↦
          let same : user ≡ k = omega (arith, less, past) in
          subst (λ (n : ℕ). name_in d n ≢ Some name) same
          (has_other_name (slice_get d.users user) name text named other)
    ]

-- nobody in a domain has the name, if none of all its users has
pub nobody_in : (found : Option DomainData) (name : List ℕ) (count user : ℕ)
    → IfSome found (λ d. count ≡ length d.users) → count ≤ user
    → ((k : ℕ) → k < user → IfSome found (λ d. name_in d k ≢ Some name))
    → IfSome found (λ d. (k : ℕ) → name_in d k ≢ Some name)
nobody_in None name count user all past none = tt
nobody_in (Some d) name count user all past none = λ k same.
    elim (cases_lt k user) [
      | inl below ↦ none k below same
      | inr after ↦ beyond k after (slice_get d.users k) (λ u is. slice_get_within d.users k u is) same
    ]
  where
    beyond : (k : ℕ) → user ≤ k → (found : Option UserData)
        → ((u : UserData) → found ≡ Some u → k < length d.users) → name_of found ≡ Some name → ⊥
    beyond k after None within same = nothing_is_none name same
    beyond k after (Some u) within same = omega (arith, within u refl, all, past, after)

-- the user of this number in a domain of the plan has this name
pub has_name_at : (plan : List DomainData) (domain user : ℕ) (name : List ℕ) → domain < length plan
    → IfSome (slice_get plan domain) (λ d. name_in d user ≡ Some name)
    → name_at plan (record { domain = domain; user = user }) ≡ Some name
has_name_at plan domain user name within named =
    let at = there_is plan domain within in
    ap (λ (found : Option DomainData). option_and_then (λ d. name_in d user) found) at.1
    ∙ subst (λ (found : Option DomainData). IfSome found (λ d. name_in d user ≡ Some name)) at.1 named

-- a domain in which nobody has the name has no user of the name
absent : (found : Option DomainData) (name : List ℕ) (user : ℕ) → IfSome found (λ d. (k : ℕ) → name_in d k ≢ Some name)
    → option_and_then (λ d. name_in d user) found ≢ Some name
absent None name user none same = nothing_is_none name same
absent (Some d) name user none same = none user same

-- if nobody in the next domain has the name, nobody up to that domain has
pub others_at_have_other_names : (plan : List DomainData) (domain : ℕ) (name : List ℕ)
    → ((number : UserNumber) → number.domain < domain → name_at plan number ≢ Some name)
    → IfSome (slice_get plan domain) (λ d. (k : ℕ) → name_in d k ≢ Some name)
    → (number : UserNumber) → number.domain < domain + 1 → name_at plan number ≢ Some name
others_at_have_other_names plan domain name before none number less =
    elim (cases_lt number.domain domain) [
      | inl below ↦ before number below
      | inr past ↦
          let same : domain ≡ number.domain = omega (arith, less, past) in
          subst (λ (n : ℕ). option_and_then (λ d. name_in d number.user) (slice_get plan n) ≢ Some name) same
          (absent (slice_get plan domain) name number.user none)
    ]

-- nobody in the plan has the name, if nobody in any of its domains has
pub nobody_at : (plan : List DomainData) (name : List ℕ) (count domain : ℕ) → count ≡ length plan → count ≤ domain
    → ((number : UserNumber) → number.domain < domain → name_at plan number ≢ Some name)
    → (number : UserNumber) → name_at plan number ≢ Some name
nobody_at plan name count domain all past none number same =
    elim (cases_lt number.domain domain) [
      | inl below ↦ none number below same
      | inr after ↦
          beyond after (slice_get plan number.domain) (λ d is. slice_get_within plan number.domain d is) same
    ]
  where
    beyond : domain ≤ number.domain → (found : Option DomainData)
        → ((d : DomainData) → found ≡ Some d → number.domain < length plan)
        → option_and_then (λ d. name_in d number.user) found ≡ Some name → ⊥
    beyond after None within same = nothing_is_none name same
    beyond after (Some d) within same = omega (arith, within d refl, all, past, after)

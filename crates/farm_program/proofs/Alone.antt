-- The history of each closed domain is one of a farm that holds this domain alone, if every merge of the histories
-- is a run of the whole farm: part `alone` of the clause `output` of `screens_of`.
use Rattle.std.proofs.Common.{◌≡◌, ◌≢◌, ◌<◌, ◌+◌, ◌==◌, inl, inr, true, false, ℕ, zero, suc, List, []}
use Rattle.std.proofs.Common.{◌∷◌, ◌++◌, Ok, slice_get, map, option_map, refl, sym, ap, ◌∙◌, arith}
use Rattle.std.specs.List.{zip}
use Rattle.std.proofs.lemmas.Bool.{cases_eq, eq-eqb, ne_eqb}
use Rattle.std.proofs.lemmas.List.{append-nil, map-append}
use Rattle.std.proofs.lemmas.List.Elements.{filter-append}
use Rattle.std.proofs.lemmas.Option.{slice_get-map}
use Rattle.plan_rules.specs.Data.{DomainData}
use Rattle.plan_rules.specs.Part.{part_of}
use Rattle.plan_rules.specs.Separate.{IsSeparate}
use Rattle.domain_core.specs.PrivateFarm.{Answer, answers, after, opening}
use Rattle.domain_core.specs.Journal.{AnsweredCall, calls_of, replies_of}
use Rattle.whole_farm.specs.Places.{places_of}
use Rattle.whole_farm.specs.Projection.{own}
use Rattle.whole_farm.specs.Merges.{journal_at, IsMerge, merged_calls, merged_answers}
use Rattle.whole_farm.specs.Laws.{EachOfAPlanIsToldPrivately, answers_among}
use Rattle.farm_service.specs.declared.closed.ClosedDomain.{ClosedDomain}
use Rattle.farm_service.specs.Closed.{EachMergeRuns, history_of}
use Rattle.farm_program.specs.Output.{AreAnsweredAlone}

-- ---- one domain's own

own-here : {X : Type 0} (domain : ℕ) (pair : ℕ × X) (xs : List (ℕ × X)) → pair.0 ≡ domain
    → own domain (pair ∷ xs) ≡ pair.1 ∷ own domain xs
own-here domain pair xs same = let test : (pair.0 == domain) ≡ true = eq-eqb _ _ same in rw test refl

own-there : {X : Type 0} (domain : ℕ) (pair : ℕ × X) (xs : List (ℕ × X)) → pair.0 ≢ domain
    → own domain (pair ∷ xs) ≡ own domain xs
own-there domain pair xs ne = let test : (pair.0 == domain) ≡ false = ne_eqb _ _ ne in rw test refl

own-map : {X Y : Type 0} (make : X → Y) (domain : ℕ) (xs : List (ℕ × X))
    → own domain (map (λ x. (x.0, make x.1)) xs) ≡ map make (own domain xs)
own-map make domain [] = refl
own-map {X} {Y} make domain (x ∷ xs) =
    let made : ℕ × Y = (x.0, make x.1) in
    elim (cases_eq x.0 domain) [
      | inl same ↦
          own-here domain made (map (λ x. (x.0, make x.1)) xs) same
          ∙ ap (λ (ys : List Y). make x.1 ∷ ys) (own-map make domain xs)
          ∙ sym (ap (map make) (own-here domain x xs same))
      | inr ne ↦
          own-there domain made (map (λ x. (x.0, make x.1)) xs) ne ∙ own-map make domain xs
          ∙ sym (ap (map make) (own-there domain x xs ne))
    ]

own-append : (domain : ℕ) (xs ys : List (ℕ × AnsweredCall)) → own domain (xs ++ ys) ≡ own domain xs ++ own domain ys
own-append domain xs ys =
    ap (map (λ (x : ℕ × AnsweredCall). x.1)) (filter-append (λ (x : ℕ × AnsweredCall). x.0 == domain) xs ys)
    ∙ map-append (λ (x : ℕ × AnsweredCall). x.1) _ _

-- ---- a merge of histories: one domain after another

-- a history with its domain's number
abbrev of_domain : ℕ → List AnsweredCall → List (ℕ × AnsweredCall)
of_domain domain history = map (λ a. (domain, a)) history

-- histories one after another, and the first has this number
abbrev in_turn : ℕ → List (List AnsweredCall) → List (ℕ × AnsweredCall)
in_turn number [] = []
in_turn number (history ∷ histories) = of_domain number history ++ in_turn (suc number) histories

own_history : (domain : ℕ) (history : List AnsweredCall) → own domain (of_domain domain history) ≡ history
own_history domain [] = refl
own_history domain (a ∷ history) =
    own-here domain (domain, a) (of_domain domain history) refl
    ∙ ap (λ (rest : List AnsweredCall). a ∷ rest) (own_history domain history)

not_own : (domain other : ℕ) (history : List AnsweredCall) → other ≢ domain → own domain (of_domain other history) ≡ []
not_own domain other [] ne = refl
not_own domain other (a ∷ history) ne =
    own-there domain (other, a) (of_domain other history) ne ∙ not_own domain other history ne

none_before : (histories : List (List AnsweredCall)) (number domain : ℕ) → domain < number
    → own domain (in_turn number histories) ≡ []
none_before [] number domain less = refl
none_before (history ∷ histories) number domain less =
    own-append domain (of_domain number history) (in_turn (suc number) histories)
    ∙ (λ k. not_own domain number history (λ e. omega (arith, e, less)) k
    ++ none_before histories (suc number) domain (omega (arith, less)) k)

own_in_turn : (histories : List (List AnsweredCall)) (number domain at : ℕ) → domain ≡ number + at
    → own domain (in_turn number histories) ≡ journal_at (slice_get histories at)
own_in_turn [] number domain at is = refl
own_in_turn (history ∷ histories) number domain zero is =
    let here : number ≡ domain = omega (arith, is) in
    own-append domain (of_domain number history) (in_turn (suc number) histories)
    ∙ (λ k. (ap (λ (n : ℕ). own domain (of_domain n history)) here ∙ own_history domain history) k
    ++ none_before histories (suc number) domain (omega (arith, is)) k)
    ∙ append-nil history
own_in_turn (history ∷ histories) number domain (suc at) is =
    own-append domain (of_domain number history) (in_turn (suc number) histories)
    ∙ (λ k. not_own domain number history (λ e. omega (arith, e, is)) k
    ++ own_in_turn histories (suc number) domain at (omega (arith, is)) k)

-- ---- what a merge is answered

zipped : (merge : List (ℕ × AnsweredCall))
    → zip (map (λ c. c.0) (merged_calls merge)) (merged_answers merge) ≡ map (λ x. (x.0, Ok x.1.reply)) merge
zipped [] = refl
zipped (x ∷ merge) = ap (λ (ys : List (ℕ × Answer)). (x.0, Ok x.1.reply) ∷ ys) (zipped merge)

-- each history is one of its domain alone, if every merge of them is a run of the whole farm
pub all_alone : (plan : List DomainData) (closed : List ClosedDomain)
    → EachOfAPlanIsToldPrivately → IsSeparate plan → EachMergeRuns (places_of plan) closed
    → AreAnsweredAlone plan closed
all_alone plan closed law separate runs domain d c at there =
    let histories = map history_of closed in
    let merge = in_turn 0 histories in
    let is_merge : IsMerge histories merge = λ i. own_in_turn histories 0 i i (omega arith) in
    let theirs : own domain merge ≡ history_of c =
    is_merge domain ∙ ap journal_at (slice_get-map history_of closed domain ∙ ap (option_map history_of) there) in
    let calls : own domain (merged_calls merge) ≡ calls_of (history_of c) =
    own-map (λ (a : AnsweredCall). a.call) domain merge ∙ ap calls_of theirs in
    let replies : answers_among domain (merged_calls merge) (merged_answers merge) ≡ replies_of (history_of c) =
    ap (own domain) (zipped merge) ∙ own-map (λ (a : AnsweredCall). Ok a.reply) domain merge ∙ ap replies_of theirs in (
      after (part_of d) (opening (part_of d)) (calls_of (history_of c)),
      record {
        state = refl;
        replies =
            ap (answers (part_of d) (opening (part_of d))) (sym calls)
            ∙ sym (law plan (merged_calls merge) domain d separate at)
            ∙ ap (answers_among domain (merged_calls merge)) (runs merge is_merge).replies ∙ replies;
      },
    )

-- What the callers of one domain are answered, call by call, for the clause `alone` of `answers_of`.
use Rattle.std.proofs.Common.{◌≡◌, ◌≢◌, ℕ, ◌+◌, ◌<◌, true, false, List, [], ◌∷◌, ◌++◌, length, get_or, drop, map}
use Rattle.std.proofs.Common.{refl, sym, ap, ◌∙◌, subst, add-one, drop-cons, append_assoc, ◌==◌}
use Rattle.std.proofs.lemmas.Bool.{eq-eqb, ne_eqb}
use Rattle.std.specs.List.{zip}
use Rattle.domain_core.specs.declared.event.By.{By}
use Rattle.domain_core.specs.declared.event.Event.{Event}
use Rattle.domain_core.specs.PrivateFarm.{Answer}
use Rattle.whole_farm.specs.Laws.{answers_among}
use Rattle.farm_core.specs.Run.{calls_asked}

-- the answers that were taken, and those of the domain among what is left, are all of the domain's
abbrev pub AreTaken : ℕ → List (ℕ × By × Event) → List Answer → ℕ → List Answer → Type 0
AreTaken domain calls told index taken =
    taken ++ answers_among domain (calls_asked (drop index calls)) (drop index told)
    ≡ answers_among domain (calls_asked calls) told

-- if the first call is the domain's, the domain's answers begin with its answer
answers-here : (domain : ℕ) (call : ℕ × By × Event) (answer : Answer) (calls : List (ℕ × By × Event))
    (told : List Answer) → call.0 ≡ domain
    → answers_among domain (calls_asked (call ∷ calls)) (answer ∷ told)
    ≡ answer ∷ answers_among domain (calls_asked calls) told
answers-here domain call answer calls told same =
    let test : (call.0 == domain) ≡ true = eq-eqb _ _ same in rw test refl

-- if it is another domain's, they are those to the calls after it
answers-there : (domain : ℕ) (call : ℕ × By × Event) (answer : Answer) (calls : List (ℕ × By × Event))
    (told : List Answer) → call.0 ≢ domain
    → answers_among domain (calls_asked (call ∷ calls)) (answer ∷ told)
    ≡ answers_among domain (calls_asked calls) told
answers-there domain call answer calls told ne =
    let test : (call.0 == domain) ≡ false = ne_eqb _ _ ne in rw test refl

-- the calls and the answers that are left begin with those at the index
left-is : (domain : ℕ) (calls : List (ℕ × By × Event)) (told : List Answer) (index : ℕ) (call : ℕ × By × Event)
    (answer : Answer) → index < length calls → index < length told
    → answers_among domain (calls_asked (drop index calls)) (drop index told)
    ≡ answers_among domain (calls_asked (get_or calls index call ∷ drop (index + 1) calls))
    (get_or told index answer ∷ drop (index + 1) told)
left-is domain calls told index call answer within there =
    let first : drop index calls ≡ get_or calls index call ∷ drop (index + 1) calls =
    rw add-one (drop-cons calls index call within) in
    let second : drop index told ≡ get_or told index answer ∷ drop (index + 1) told =
    rw add-one (drop-cons told index answer there) in
    ap (λ (left : List (ℕ × By × Event)). answers_among domain (calls_asked left) (drop index told)) first
    ∙ ap (λ (left : List Answer).
    answers_among domain (calls_asked (get_or calls index call ∷ drop (index + 1) calls)) left) second

-- an answer to a call of the domain is taken
pub taken-here : (domain : ℕ) (calls : List (ℕ × By × Event)) (told : List Answer) (index : ℕ)
    (call : ℕ × By × Event) (answer : Answer) (taken : List Answer) → index < length calls → index < length told
    → (get_or calls index call).0 ≡ domain → AreTaken domain calls told index taken
    → AreTaken domain calls told (index + 1) (taken ++ get_or told index answer ∷ [])
taken-here domain calls told index call answer taken within there same so =
    let left = left-is domain calls told index call answer within there
    ∙ answers-here domain (get_or calls index call) (get_or told index answer) (drop (index + 1) calls)
    (drop (index + 1) told) same in
    append_assoc taken (get_or told index answer ∷ [])
    (answers_among domain (calls_asked (drop (index + 1) calls)) (drop (index + 1) told))
    ∙ sym (ap (λ (rest : List Answer). taken ++ rest) left) ∙ so

-- an answer to a call of another domain isn't
pub taken-there : (domain : ℕ) (calls : List (ℕ × By × Event)) (told : List Answer) (index : ℕ)
    (call : ℕ × By × Event) (answer : Answer) (taken : List Answer) → index < length calls → index < length told
    → (get_or calls index call).0 ≢ domain → AreTaken domain calls told index taken
    → AreTaken domain calls told (index + 1) taken
taken-there domain calls told index call answer taken within there ne so =
    let left = left-is domain calls told index call answer within there
    ∙ answers-there domain (get_or calls index call) (get_or told index answer) (drop (index + 1) calls)
    (drop (index + 1) told) ne in
    sym (ap (λ (rest : List Answer). taken ++ rest) left) ∙ so

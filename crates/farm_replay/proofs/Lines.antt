-- Lines that answer one request after another.
use Rattle.std.proofs.Common.{◌≡◌, ◌+◌, ◌<◌, ℕ, List, [], ◌∷◌, ◌++◌, map, sym, ap, ◌∙◌, subst, append_assoc, take}
use Rattle.std.proofs.Common.{get_or, length}
use Rattle.std.proofs.lemmas.List.{map-append, append-nil, take_more}
use Rattle.domain_core.specs.Domain.{DomainValue}
use Rattle.whole_farm.specs.Places.{Place}
use Rattle.whole_farm.specs.Whole.{Farm, whole_opening}
use Rattle.whole_farm.specs.Domains.{IsMadeOf}
use Rattle.whole_farm.specs.Values.{all_places, all_states}
use Rattle.event_text.specs.declared.request.RepeatedRequest.{RepeatedRequest}
use Rattle.farm_replay.specs.Plain.{asked_by, IsShownIn, AreLines, Asked, Calls, Looks, Opens, Restarts, GoesOn}
use Rattle.farm_replay.specs.Runs.{IsRunTo, IsOpenedFarm, ShowsAsked}
use Rattle.farm_replay.proofs.Changed.{restarts_in}

-- lines that go on well from each whole farm that is made of the domains make all lines well
abbrev pub AreLinesSoFar : List Place → List Asked → List (List ℕ) → List DomainValue → Type 0
AreLinesSoFar plan asked lines domains =
    (rest : List Asked) (more : List (List ℕ))
    → ((farm : Farm) → all_places domains ≡ plan → IsMadeOf plan farm (all_states domains)
    → AreLines plan farm rest more)
    → AreLines plan (whole_opening plan) (asked ++ rest) (lines ++ more)

-- before the first line the domains are those of the opening
pub no_lines : (plan : List Place) (domains : List DomainValue) → IsOpenedFarm plan domains
    → AreLinesSoFar plan [] [] domains
no_lines plan domains opened rest more well = well (whole_opening plan) opened.places opened.made

one_line : (plan : List Place) (farm : Farm) (asked : Asked) (line : List ℕ) (old new : List DomainValue)
    (rest : List Asked) (more : List (List ℕ))
    → all_places old ≡ plan → IsMadeOf plan farm (all_states old) → ShowsAsked plan asked old new line
    → ((after : Farm) → all_places new ≡ plan → IsMadeOf plan after (all_states new) → AreLines plan after rest more)
    → AreLines plan farm (asked ∷ rest) (line ∷ more)
one_line plan farm Looks line old new rest more places made same well =
    well farm (subst (λ d. all_places d ≡ plan) (sym same) places)
    (subst (λ d. IsMadeOf plan farm (all_states d)) (sym same) made)
one_line plan farm Opens line old new rest more places made opened well =
    well (whole_opening plan) opened.places opened.made
one_line plan farm (Calls calls) line old new rest more places made shows well =
    let run : IsRunTo plan farm calls shows.told new =
    subst (λ p. IsRunTo p farm calls shows.told new) places
    (shows.run.each farm (subst (λ p. IsMadeOf p farm (all_states old)) (sym places) made)) in
    (subst (IsShownIn line) run.told_is shows.shown, well _ (shows.run.places ∙ places) run.made)
one_line plan farm (GoesOn domain) line old new rest more places made gone well =
    let run : IsRunTo plan farm gone.calls gone.told new =
    subst (λ p. IsRunTo p farm gone.calls gone.told new) places
    (gone.run.each farm (subst (λ p. IsMadeOf p farm (all_states old)) (sym places) made)) in
    (gone.calls, gone.farms, well _ (gone.run.places ∙ places) run.made)
one_line plan farm (Restarts domain) line old new rest more places made shows well =
    let same : all_places new ≡ plan = shows.places ∙ places in
    let then : IsMadeOf plan shows.made.0 (all_states new) =
    subst (λ p. IsMadeOf p shows.made.0 (all_states new)) same shows.made.1 in (
      shows.made.0,
      restarts_in plan domain farm shows.made.0 old new same made then shows,
      well shows.made.0 same then,
    )

-- if a further request shows its line, the lines of all requests up to it are well
pub one_more_line : (plan : List Place) (requests : List RepeatedRequest) (index : ℕ) (request : RepeatedRequest)
    (lines : List (List ℕ)) (line : List ℕ) (old new : List DomainValue)
    → index < length requests → request ≡ get_or requests index request
    → AreLinesSoFar plan (map asked_by (take index requests)) lines old
    → ShowsAsked plan (asked_by request) old new line
    → AreLinesSoFar plan (map asked_by (take (index + 1) requests)) (lines ++ line ∷ []) new
one_more_line plan requests index request lines line old new within is so shows rest more well =
    let now = asked_by request in
    let before = map asked_by (take index requests) in
    let asked : map asked_by (take (index + 1) requests) ≡ before ++ now ∷ [] =
    ap (map asked_by) (take_more requests index request within ∙ ap (λ r. take index requests ++ r ∷ []) (sym is))
    ∙ map-append asked_by (take index requests) (request ∷ []) in
    let all : before ++ now ∷ rest ≡ map asked_by (take (index + 1) requests) ++ rest =
    sym (append_assoc before (now ∷ []) rest) ∙ ap (λ (xs : List Asked). xs ++ rest) (sym asked) in
    let shown : lines ++ line ∷ more ≡ lines ++ line ∷ [] ++ more = sym (append_assoc lines (line ∷ []) more) in
    subst (λ (xs : List Asked). AreLines plan (whole_opening plan) xs (lines ++ line ∷ [] ++ more)) all
    (subst (λ (ls : List (List ℕ)). AreLines plan (whole_opening plan) (before ++ now ∷ rest) ls) shown
    (so (now ∷ rest) (line ∷ more)
    (λ farm places made. one_line plan farm now line old new rest more places made shows well)))

-- lines of all requests are what the whole farm of the plan shows from its opening
pub all_lines : (plan : List Place) (asked : List Asked) (lines : List (List ℕ)) (domains : List DomainValue)
    → AreLinesSoFar plan asked lines domains
    → AreLines plan (whole_opening plan) asked lines
all_lines plan asked lines domains so =
    subst (λ (xs : List Asked). AreLines plan (whole_opening plan) xs lines) (append-nil asked)
    (subst (λ (ls : List (List ℕ)). AreLines plan (whole_opening plan) (asked ++ []) ls) (append-nil lines)
    (so [] [] (λ farm places made. tt)))

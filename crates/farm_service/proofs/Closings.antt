-- Domains that are closed one after another, and what their journals come to: the clauses `domains` and `runs` of
-- `close_domains`. At the end the words of one domain: the clause `words` of `output_words`.
use Rattle.std.proofs.Common.{◌≡◌, ℕ, zero, suc, ◌+◌, List, [], ◌∷◌, ◌++◌, length, take, map, Option}
use Rattle.std.proofs.Common.{Some, None, slice_get, All, refl, sym, ap, ◌∙◌, subst, arith, option_map}
use Rattle.std.proofs.lemmas.List.{take_more, map-append, length-append, take_all}
use Rattle.std.proofs.lemmas.List.Elements.{All-push}
use Rattle.std.proofs.lemmas.Option.{slice_get-map, same_Some, slice_get_within, get_or_from_slice_get, none-some}
use Rattle.std.specs.List.{range_with_len}
use Rattle.crossbar.specs.declared.word.Word.{Word}
use Rattle.plan_rules.specs.Data.{DomainData}
use Rattle.plan_rules.specs.Part.{physical_ports}
use Rattle.domain_core.specs.Domain.{DomainValue, IsMeant}
use Rattle.domain_core.specs.Journal.{AnsweredCall, expanded}
use Rattle.whole_farm.specs.Places.{Place, place_of, places_of, AreSeparatePlaces}
use Rattle.whole_farm.specs.Values.{all_places}
use Rattle.whole_farm.specs.Merges.{own_place, own_journal, IsMerge, EachMergeOfDomainsIsARun}
use Rattle.whole_farm.specs.Words.{HasRow, EachMergeEndsAsWordsSay}
use Rattle.farm_service.specs.declared.closed.ClosedDomain.{ClosedDomain}
use Rattle.farm_service.specs.Closed.{history_of, EachMergeRuns}
use Rattle.farm_service.specs.Endings.{IsEndOf}

-- what is closed was these domains, which are those of a plan
pub record AreEnds (plan : List DomainData) (domains : List DomainValue) (closed : List ClosedDomain) : Type 0 where
  pub places : all_places domains ≡ places_of plan
  pub meant : All IsMeant domains
  pub rows : All HasRow domains
  pub numbers : map (λ c. c.domain) closed ≡ range_with_len 0 (length plan)
  pub counts : map (λ c. length c.words.items) closed ≡ map (λ d. length (physical_ports d)) plan
  pub journals : map history_of closed ≡ map own_journal domains
  pub words : map (λ c. c.words.items) closed ≡ map (λ d. d.machine.switch.words) domains

plus_one : (n : ℕ) → n + 1 ≡ suc n
plus_one n = omega arith

add_zero : (n : ℕ) → n ≡ n + 0
add_zero n = omega arith

zero_plus : (n : ℕ) → 0 + n ≡ n
zero_plus n = omega arith

moved : (n m : ℕ) → n + 1 + m ≡ n + suc m
moved n m = omega arith

range_suc : (a n : ℕ) → range_with_len a (suc n) ≡ range_with_len a n ++ (a + n) ∷ []
range_suc a zero = λ i. add_zero a i ∷ []
range_suc a (suc n) = ap (λ l. a ∷ l) (range_suc (a + 1) n ∙ (λ i. range_with_len (a + 1) n ++ moved a n i ∷ []))

range_more : (n : ℕ) → range_with_len 0 (n + 1) ≡ range_with_len 0 n ++ n ∷ []
range_more n = ap (range_with_len 0) (plus_one n) ∙ range_suc 0 n ∙ (λ i. range_with_len 0 n ++ zero_plus n i ∷ [])

length_more : (xs : List DomainData) (domain : DomainData) → length (xs ++ domain ∷ []) ≡ length xs + 1
length_more xs domain = omega (arith, length-append xs (domain ∷ []))

-- a domain more
one_more : (plan : List DomainData) (of : DomainData) (domains : List DomainValue) (d : DomainValue)
    (closed : List ClosedDomain) (c : ClosedDomain)
    → AreEnds plan domains closed → place_of of ≡ own_place d → IsMeant d → HasRow d → c.domain ≡ length plan
    → c.journal.entries ≡ d.journal → c.words.items ≡ d.machine.switch.words
    → AreEnds (plan ++ of ∷ []) (domains ++ d ∷ []) (closed ++ c ∷ [])
one_more plan of domains d closed c before place meant row number journal words = record {
  places =
      map-append own_place domains (d ∷ []) ∙ (λ i. before.places i ++ sym place i ∷ [])
      ∙ sym (map-append place_of plan (of ∷ []));
  meant = All-push IsMeant domains d before.meant meant;
  rows = All-push HasRow domains d before.rows row;
  numbers =
      map-append (λ (x : ClosedDomain). x.domain) closed (c ∷ []) ∙ (λ i. before.numbers i ++ number i ∷ [])
      ∙ sym (range_more (length plan))
      ∙ ap (range_with_len 0) (sym (length_more plan of));
  counts =
      map-append (λ (x : ClosedDomain). length x.words.items) closed (c ∷ [])
      ∙ (λ i. before.counts i ++ counted i ∷ [])
      ∙ sym (map-append (λ (x : DomainData). length (physical_ports x)) plan (of ∷ []));
  journals =
      map-append history_of closed (c ∷ []) ∙ (λ i. before.journals i ++ expanded (journal i) ∷ [])
      ∙ sym (map-append own_journal domains (d ∷ []));
  words =
      map-append (λ (x : ClosedDomain). x.words.items) closed (c ∷ []) ∙ (λ i. before.words i ++ words i ∷ [])
      ∙ sym (map-append (λ (x : DomainValue). x.machine.switch.words) domains (d ∷ []));
}
  where
    counted : length c.words.items ≡ length (physical_ports of)
    counted = ap length words ∙ row.length_is ∙ ap (λ (p : Place). length p.ports) (sym place)

-- what is closed so far was the first domains of a plan
abbrev pub AreEndsSoFar : List DomainData → ℕ → List ClosedDomain → Type 0
AreEndsSoFar plan i closed = (domains : List DomainValue) × AreEnds (take i plan) domains closed

-- if the first domains of a plan are closed, and the next one ends so, one domain more is closed
pub ends_more : (plan : List DomainData) (i : ℕ) (closed : List ClosedDomain) (d : DomainValue) (c : ClosedDomain)
    → AreEndsSoFar plan i closed → length (take i plan) ≡ i → IsEndOf plan i d c
    → AreEndsSoFar plan (i + 1) (closed ++ c ∷ [])
ends_more plan i closed d c before count end =
    let of = end.fits.domain in
    let within = slice_get_within plan i of end.fits.there in
    let more : take (i + 1) plan ≡ take i plan ++ of ∷ [] =
    take_more plan i of within
    ∙ ap (λ (x : DomainData). take i plan ++ x ∷ []) (get_or_from_slice_get plan i of of end.fits.there) in
    let place : place_of of ≡ own_place d = λ k. record { part = end.fits.part k; ports = end.fits.ports k } in (
      before.0 ++ d ∷ [],
      subst (λ (xs : List DomainData). AreEnds xs (before.0 ++ d ∷ []) (closed ++ c ∷ [])) (sym more)
          (one_more (take i plan) of before.0 d closed c before.1 place end.meant end.row
          (end.domain ∙ sym count) end.journal end.words),
    )

-- ---- what they come to

-- what is at a place of what was made of two lists alike
same_at : {X Y Z : Type 0} (f : X → Z) (g : Y → Z) (xs : List X) (ys : List Y) (i : ℕ) (x : X) (y : Y)
    → map f xs ≡ map g ys → slice_get xs i ≡ Some x → slice_get ys i ≡ Some y
    → f x ≡ g y
same_at f g xs ys i x y same at there =
    same_Some _ _
    (ap (option_map f) (sym at) ∙ sym (slice_get-map f xs i) ∙ ap (λ l. slice_get l i) same ∙ slice_get-map g ys i
    ∙ ap (option_map g) there)

made_of : (found : Option DomainValue) (place : Place) → option_map own_place found ≡ Some place
    → (d : DomainValue) × (found ≡ Some d) × (own_place d ≡ place)
made_of None place is = absurd (none-some place is)
made_of (Some d) place is = (d, refl, same_Some _ _ is)

-- the domain whose place this is
domain_of : (domains : List DomainValue) (i : ℕ) (place : Place) → slice_get (map own_place domains) i ≡ Some place
    → (d : DomainValue) × (slice_get domains i ≡ Some d) × (own_place d ≡ place)
domain_of domains i place at = made_of (slice_get domains i) place (sym (slice_get-map own_place domains i) ∙ at)

runs_in : (domains : List DomainValue) (closed : List ClosedDomain)
    → EachMergeOfDomainsIsARun → EachMergeEndsAsWordsSay → AreSeparatePlaces (all_places domains) → All IsMeant domains
    → All HasRow domains → map history_of closed ≡ map own_journal domains
    → map (λ c. c.words.items) closed ≡ map (λ d. d.machine.switch.words) domains
    → EachMergeRuns (all_places domains) closed
runs_in domains closed law says_law separate meant rows journals words merge is =
    let merges = subst (λ (js : List (List AnsweredCall)). IsMerge js merge) journals is in
    let run = law domains merge separate meant merges in record {
      replies = run.replies;
      words = λ domain output port place c word at there has says.
          let d = domain_of domains domain place at in
          let same : c.words.items ≡ d.0.machine.switch.words =
          same_at (λ (x : ClosedDomain). x.words.items) (λ (x : DomainValue). x.machine.switch.words) closed
          domains domain c d.0 words there d.1 in
          says_law domains merge separate meant rows merges domain output port d.0 word d.1
          (ap (λ (p : Place). slice_get p.ports output) d.2 ∙ has) (ap (λ l. slice_get l output) (sym same) ∙ says);
      free = run.ends.free;
    }

-- if what is closed was the domains of a plan, every merge of the journals is a run of the whole farm
pub all_run : (plan : List DomainData) (closed : List ClosedDomain) (domains : List DomainValue)
    → EachMergeOfDomainsIsARun → EachMergeEndsAsWordsSay → AreSeparatePlaces (places_of plan)
    → AreEnds plan domains closed
    → EachMergeRuns (places_of plan) closed
all_run plan closed domains law says_law separate ends =
    subst (λ (places : List Place). EachMergeRuns places closed) ends.places
    (runs_in domains closed law says_law (subst AreSeparatePlaces (sym ends.places) separate) ends.meant
    ends.rows ends.journals ends.words)

-- if as many domains are closed as the plan has, they are all of the plan
pub whole : (plan : List DomainData) (i : ℕ) (closed : List ClosedDomain) → length plan ≡ i → AreEndsSoFar plan i closed
    → (domains : List DomainValue) × AreEnds plan domains closed
whole plan i closed count ends =
    (ends.0, subst (λ (xs : List DomainData). AreEnds xs ends.0 closed) (take_all i plan (omega arith)) ends.1)

-- ---- the words of a domain

-- the first words of a list, and the next one, are its first words and one more
pub word_more : (words all : List Word) (i : ℕ) (word : Word) → words ≡ take i all → slice_get all i ≡ Some word
    → words ++ word ∷ [] ≡ take (i + 1) all
word_more words all i word before at =
    ap (λ (l : List Word). l ++ word ∷ []) before
    ∙ sym (take_more all i word (slice_get_within all i word at)
    ∙ ap (λ (x : Word). take i all ++ x ∷ []) (get_or_from_slice_get all i word word at))

-- The Moves of ports, one after another: the clause `moved` of `move_ports`.
use Rattle.std.proofs.Common.{◌≡◌, ℕ, suc, ◌+◌, ◌||◌, List, [], ◌∷◌, ◌++◌, Bool}
use Rattle.std.proofs.Common.{refl, sym, ap, ◌∙◌, subst, arith, append_assoc}
use Rattle.std.specs.Prelude.{All, IsOk}
use Rattle.std.proofs.lemmas.List.Elements.{All-append}
use Rattle.plan_rules.specs.Part.{PartData}
use Rattle.domain_core.specs.Domain.{DomainValue, state_of, gained}
use Rattle.domain_core.specs.Journal.{AnsweredCall, expanded}
use Rattle.domain_core.specs.PrivateFarm.{State, Answer, Call, next, answers, after}
use Rattle.farm_service.specs.PortMoves.{move_of, moves_of, all_gained, is_any, AreDone}

after-append : (part : PartData) (s : State) (xs ys : List Call)
    → after part s (xs ++ ys) ≡ after part (after part s xs) ys
after-append part s [] ys = refl
after-append part s (x ∷ xs) ys = after-append part (next part s x).0 xs ys

answers-append : (part : PartData) (s : State) (xs ys : List Call)
    → answers part s (xs ++ ys) ≡ answers part s xs ++ answers part (after part s xs) ys
answers-append part s [] ys = refl
answers-append part s (x ∷ xs) ys =
    ap (λ (rest : List Answer). (next part s x).1 ∷ rest) (answers-append part (next part s x).0 xs ys)

gained-append : (part : PartData) (s : State) (xs ys : List Call)
    → all_gained part s (xs ++ ys) ≡ all_gained part s xs ++ all_gained part (after part s xs) ys
gained-append part s [] ys = refl
gained-append part s (x ∷ xs) ys =
    ap (λ (rest : List AnsweredCall). gained part s x (next part s x).1 ++ rest)
    (gained-append part (next part s x).0 xs ys)
    ∙ sym (append_assoc (gained part s x (next part s x).1) (all_gained part (next part s x).0 xs)
    (all_gained part (after part (next part s x).0 xs) ys))

any-append : (xs ys : List AnsweredCall) → is_any (xs ++ ys) ≡ (is_any xs || is_any ys)
any-append [] ys = refl
any-append (x ∷ xs) ys = refl

-- a domain that did some calls, and then others, did all of them
pub more_done : (xs ys : List Call) (d e domain : DomainValue) (some more : Bool) → AreDone xs d some e
    → AreDone ys e more domain
    → AreDone (xs ++ ys) d (some || more) domain
more_done xs ys d e domain some more first second =
    let P : PartData = d.machine.part in
    let s : State = state_of d in
    let t : State = after P s xs in
    let here : (X : State → PartData → Type 0) → X (state_of e) e.machine.part → X t P =
    λ X x. subst (λ (p : PartData). X t p) first.part (subst (λ (u : State). X u e.machine.part) first.state x) in
    let gains : expanded domain.journal ≡ expanded e.journal ++ all_gained P t ys =
    here (λ u p. expanded domain.journal ≡ expanded e.journal ++ all_gained p u ys) second.journal in
    let any : more ≡ is_any (all_gained P t ys) = here (λ u p. more ≡ is_any (all_gained p u ys)) second.any in
    record {
      answered =
          subst (All IsOk) (sym (answers-append P s xs ys))
          (All-append IsOk (answers P s xs) (answers P t ys) first.answered
          (here (λ u p. All IsOk (answers p u ys)) second.answered));
      state = here (λ u p. state_of domain ≡ after p u ys) second.state ∙ sym (after-append P s xs ys);
      journal =
          gains ∙ ap (λ (before : List AnsweredCall). before ++ all_gained P t ys) first.journal
          ∙ append_assoc (expanded d.journal) (all_gained P s xs) (all_gained P t ys)
          ∙ ap (λ (more : List AnsweredCall). expanded d.journal ++ more) (sym (gained-append P s xs ys));
      any = ap (λ (b : Bool). b || more) first.any ∙ ap (λ (b : Bool). is_any (all_gained P s xs) || b) any
          ∙ sym (any-append (all_gained P s xs) (all_gained P t ys)) ∙ ap is_any (sym (gained-append P s xs ys));
      part = second.part ∙ first.part;
      ports = second.ports ∙ first.ports;
    }

-- a domain that did the Moves of the first ports, and then that of the next, did those of one port more
pub port_done : (port : ℕ) (d e domain : DomainValue) (went more : Bool)
    → AreDone (moves_of port) d went e → AreDone (move_of port ∷ []) e more domain
    → AreDone (moves_of (port + 1)) d (went || more) domain
port_done port d e domain went more first second =
    let next : suc port ≡ port + 1 = omega arith in
    subst (λ (n : ℕ). AreDone (moves_of n) d (went || more) domain) next
    (more_done (moves_of port) (move_of port ∷ []) d e domain went more first second)

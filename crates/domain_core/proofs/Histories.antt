-- A history that is one event longer, for the law `histories_grow` and for what each event leaves of a domain.
use Rattle.std.proofs.Common.{◌≡◌, List, [], ◌∷◌, ◌++◌, Ok, refl, ap}
use Rattle.std.proofs.lemmas.List.{map-append}
use Rattle.plan_rules.specs.Part.{PartData}
use Rattle.domain_core.specs.declared.event.Reply.{Reply}
use Rattle.domain_core.specs.PrivateFarm.{State, Answer, Call, next, answers, after, opening}
use Rattle.domain_core.specs.Journal.{AnsweredCall, calls_of, replies_of, IsHistory}

-- the state after two lists of calls is that after the second, from the state after the first
pub after-append : (part : PartData) (s : State) (xs ys : List Call)
    → after part s (xs ++ ys) ≡ after part (after part s xs) ys
after-append part s [] ys = refl
after-append part s (x ∷ xs) ys = after-append part (next part s x).0 xs ys

-- the answers to two lists of calls are those to the first, and then those to the second from the state after it
pub answers-append : (part : PartData) (s : State) (xs ys : List Call)
    → answers part s (xs ++ ys) ≡ answers part s xs ++ answers part (after part s xs) ys
answers-append part s [] ys = refl
answers-append part s (x ∷ xs) ys =
    ap (λ (rest : List Answer). (next part s x).1 ∷ rest) (answers-append part (next part s x).0 xs ys)

-- the private farm's next answer makes the history longer
pub longer : (part : PartData) (history : List AnsweredCall) (s : State) (call : Call) (reply : Reply)
    → IsHistory part history s → (next part s call).1 ≡ Ok reply
    → IsHistory part (history ++ record { call = call; reply = reply } ∷ []) (next part s call).0
longer part history s call reply given told =
    let one : AnsweredCall = record { call = call; reply = reply } in
    let calls : calls_of (history ++ one ∷ []) ≡ calls_of history ++ call ∷ [] =
    map-append (λ (a : AnsweredCall). a.call) history (one ∷ []) in
    let replies : replies_of (history ++ one ∷ []) ≡ replies_of history ++ Ok reply ∷ [] =
    map-append (λ (a : AnsweredCall). let r : Answer = Ok a.reply in r) history (one ∷ []) in
    record {
      state = rw (calls, after-append part (opening part) (calls_of history) (call ∷ []), given.state) refl;
      replies =
          rw (
            calls,
            replies,
            answers-append part (opening part) (calls_of history) (call ∷ []),
            given.state,
            given.replies,
            told,
          )
          refl;
    }

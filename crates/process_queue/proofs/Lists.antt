-- Putting and taking, on the list that waits, for the contracts of `Queue::put` and `Queue::take`.
use Rattle.std.proofs.Common.{◌≡◌, ◌≢◌, ℕ, ◌/◌, ◌^◌, ◌<◌, Bool, true, false, cond, List, [], ◌∷◌, ◌++◌, Option, Some}
use Rattle.std.proofs.Common.{None, Result, Ok, Err, refl, arith, ◌∙◌, ap, sym}
use Rattle.std.proofs.lemmas.Bool.Decides.{nat_tests}
use Rattle.node_memory.specs.Bytes.{word_at, with_word, word_from, word_offset, holds_word}
use Rattle.node_memory.specs.Laws.{WordIsRead, OtherWordsStay, WriteFaultsAsRead}
use Rattle.process_queue.specs.declared.queue.Queue.{Queue}
use Rattle.node_memory.specs.Marks.{not_process}
use Rattle.node_memory.specs.Effect.{Effect, Gave, Halted, tried}
use Rattle.process_queue.specs.Queue.{link_of, after_put, after_take}
use Rattle.node_memory.specs.declared.fault.Fault.{Fault}
use Rattle.node_memory.specs.declared.fault.Fault.TheVariants.{OutsideMemory}
use Rattle.process_queue.specs.Waiting.{IsWorkspace, IsAbsent, AreWorkspaces, IsLinked, Stands, first, others}

-- different workspaces have different link words
apart_links : (v w : ℕ) → IsWorkspace v → IsWorkspace w → v ≢ w → link_of v / 4 ≢ link_of w / 4
apart_links v w given holds ne = λ e. ne (omega arith)

-- the last of a linked list is in it
last_differs : (m : List ℕ) (w v : ℕ) (vs : List ℕ) (back : ℕ) → IsAbsent w (v ∷ vs) → IsLinked m v vs back → w ≢ back
last_differs m w v [] back absent linked = λ e. absent.0 (e ∙ linked)
last_differs m w v (u ∷ us) back absent linked = last_differs m w u us back absent.1 linked.1

-- the last of a linked list is a workspace
last_is : (m : List ℕ) (v : ℕ) (vs : List ℕ) (back : ℕ) → AreWorkspaces (v ∷ vs) → IsLinked m v vs back
    → IsWorkspace back
last_is m v [] back ws linked = rw linked ws.0
last_is m v (u ∷ us) back ws linked = last_is m u us back ws.1.1 linked.1

-- a write of the last link word lengthens the list
linked-put : WordIsRead → OtherWordsStay → (m n : List ℕ) (v : ℕ) (vs : List ℕ) (back w : ℕ) → AreWorkspaces (v ∷ vs)
    → w < 2 ^ 32 → with_word m (link_of back) w ≡ Ok n → IsLinked m v vs back
    → IsLinked n v (vs ++ w ∷ []) w
linked-put read stay m n v [] back w ws fits write linked =
    (read m n (link_of v) w fits (rw (← linked) write), refl)
linked-put read stay m n v (u ∷ us) back w ws fits write linked = (
  stay m n (link_of back) (link_of v) w
      (apart_links back v (last_is m u us back ws.1.1 linked.1) ws.0
      (λ e. last_differs m v u us back ws.1.0 linked.1 (sym e)))
      write
      ∙ linked.0,
  linked-put read stay m n u us back w ws.1.1 fits write linked.1,
)

absent-put : (v : ℕ) (vs : List ℕ) (w : ℕ) → IsAbsent v vs → v ≢ w → IsAbsent v (vs ++ w ∷ [])
absent-put v [] w given ne = (ne, tt)
absent-put v (u ∷ us) w given ne = (given.0, absent-put v us w given.1 ne)

workspaces-put : (vs : List ℕ) (w : ℕ) → AreWorkspaces vs → IsWorkspace w → IsAbsent w vs → AreWorkspaces (vs ++ w ∷ [])
workspaces-put [] w ws given holds = (given, (tt, tt))
workspaces-put (v ∷ vs) w ws given holds =
    (ws.0, (absent-put v vs w ws.1.0 (λ e. holds.0 (sym e)), workspaces-put vs w ws.1.1 given holds.1))

-- a read has one fault
cond-fault : (b : Bool) (x : ℕ) (f : Fault) → cond b (Ok x) (Err OutsideMemory) ≡ Err f → f ≡ OutsideMemory
cond-fault true x f same = cc
cond-fault false x f same = cc

word_at-fault : (m : List ℕ) (a : ℕ) (f : Fault) → word_at m a ≡ Err f → f ≡ OutsideMemory
unfolding word_at
word_at-fault m a f same = cond-fault (holds_word m a) (word_from m (word_offset a)) f same

-- what comes of a write of the last link word
abbrev linked : Result (List ℕ) Fault → Queue → List ℕ → Queue → Effect (Unit {0}) Queue
linked outcome q m queue = tried outcome q m (λ m. Gave tt queue m)

-- what comes of a read of the first link word
abbrev followed : Result ℕ Fault → Queue → List ℕ → Effect (Option ℕ) Queue
followed outcome q m = tried outcome q m (λ next. Gave (Some q.front) (record { front = next; back = q.back }) m)

-- what comes of a put
put_empty : (q : Queue) (m : List ℕ) (w : ℕ) → q.front ≡ not_process
    → after_put q m w ≡ Gave tt (record { front = w; back = w }) m
unfolding after_put
put_empty q m w same = rw same refl

put_more : (q : Queue) (m : List ℕ) (w : ℕ) → q.front ≢ not_process
    → after_put q m w ≡ linked (with_word m (link_of q.back) w) q m (record { front = q.front; back = w })
unfolding after_put
put_more q m w ne = grind (arith, nat_tests)

linked-changed : (outcome : Result (List ℕ) Fault) (q queue other_queue : Queue) (m n : List ℕ)
    → linked outcome q m other_queue ≡ Gave tt queue n
    → (outcome ≡ Ok n) × (queue ≡ other_queue)
linked-changed (Ok k) q queue other_queue m n same = (cc, cc)
linked-changed (Err fault) q queue other_queue m n same = cc

linked-kept : (outcome : Result (List ℕ) Fault) (q queue other_queue : Queue) (m n : List ℕ) (f : Fault)
    → linked outcome q m other_queue ≡ Halted f queue n
    → outcome ≡ Err f
linked-kept (Ok k) q queue other_queue m n f same = cc
linked-kept (Err fault) q queue other_queue m n f same = cc

-- a put that is done found the last link word in memory, if there is one
pub put-inside : WriteFaultsAsRead → (q queue : Queue) (m n : List ℕ) (w : ℕ) → after_put q m w ≡ Gave tt queue n
    → q.front ≢ not_process → word_at m (link_of q.back) ≡ Err OutsideMemory
    → ⊥
put-inside faults q queue m n w same ne outside =
    let done = linked-changed _ _ _ _ _ _ (sym (put_more q m w ne) ∙ same) in
    let fault = (faults m (link_of q.back) w OutsideMemory).1 outside in
    let ok = done.0 in
    cc

-- one that is not done found it outside
pub put-outside : WriteFaultsAsRead → (q queue : Queue) (m n : List ℕ) (w : ℕ) (f : Fault) → after_put q m w
    ≡ Halted f queue n
    → (f ≡ OutsideMemory) × (q.front ≢ not_process) × (word_at m (link_of q.back) ≡ Err OutsideMemory)
put-outside faults q queue m n w f equal =
    let ne : q.front ≢ not_process = λ h. (let p = put_empty q m w h in cc) in
    let fault = linked-kept _ _ _ _ _ _ _ (sym (put_more q m w ne) ∙ equal) in
    let unread = (faults m (link_of q.back) w f).0 fault in
    let same = word_at-fault m (link_of q.back) f unread in
    (same, ne, rw (← same) unread)

-- a new workspace goes to the end of the list
pub stands-put : WordIsRead → OtherWordsStay → (ws : List ℕ) (q queue : Queue) (m n : List ℕ) (w : ℕ)
    → after_put q m w ≡ Gave tt queue n → Stands m q ws → IsWorkspace w → IsAbsent w ws
    → Stands n queue (ws ++ w ∷ [])
stands-put read stay [] q queue m n w same stands given holds =
    let f = sym (put_empty q m w stands) ∙ same in
    let g : queue ≡ record { front = w; back = w } = cc in
    rw g (refl, (refl, (given, (tt, tt))))
stands-put read stay (v ∷ vs) q queue m n w same stands given holds =
    let f = linked-changed _ _ _ _ _ _ (sym (put_more q m w (rw stands.0 stands.1.1.0.process)) ∙ same) in
    rw f.1 (
      stands.0,
      (
        linked-put read stay m n v vs q.back w stands.1.1 given.fits f.0 stands.1.0,
        workspaces-put (v ∷ vs) w stands.1.1 given holds,
      ),
    )

-- what comes of a take
take_empty : (q : Queue) (m : List ℕ) → q.front ≡ not_process → after_take q m ≡ Gave None q m
unfolding after_take
take_empty q m same = rw same refl

take_last : (q : Queue) (m : List ℕ) → q.front ≢ not_process → q.front ≡ q.back
    → after_take q m ≡ Gave (Some q.front) (record { front = not_process; back = q.back }) m
unfolding after_take
take_last q m ne same = grind (arith, nat_tests)

take_more : (q : Queue) (m : List ℕ) → q.front ≢ not_process → q.front ≢ q.back
    → after_take q m ≡ followed (word_at m (link_of q.front)) q m
unfolding after_take
take_more q m ne unlike = grind (arith, nat_tests)

followed-took : (outcome : Result ℕ Fault) (q queue : Queue) (m n : List ℕ) (number : Option ℕ) → followed outcome q m
    ≡ Gave number queue n
    → outcome ≡ Err OutsideMemory
    → ⊥
followed-took (Ok next) q queue m n number same outside = cc
followed-took (Err fault) q queue m n number same outside = cc

followed-stayed : (outcome : Result ℕ Fault) (q queue : Queue) (m n : List ℕ) (f : Fault) → followed outcome q m
    ≡ Halted f queue n
    → outcome ≡ Err f
followed-stayed (Ok next) q queue m n f same = cc
followed-stayed (Err fault) q queue m n f same = cc

-- a take that is done found the first link word in memory, if others wait after it
pub take-inside : (q queue : Queue) (m n : List ℕ) (number : Option ℕ)
    → after_take q m ≡ Gave number queue n → q.front ≢ not_process → q.front ≢ q.back
    → word_at m (link_of q.front) ≡ Err OutsideMemory
    → ⊥
take-inside q queue m n number same process last outside =
    followed-took _ _ _ _ _ _ (sym (take_more q m process last) ∙ same) outside

-- one that is not done found it outside
pub take-outside : (q queue : Queue) (m n : List ℕ) (f : Fault) → after_take q m ≡ Halted f queue n
    → (f ≡ OutsideMemory) × (q.front ≢ not_process) × (q.front ≢ q.back)
    × (word_at m (link_of q.front) ≡ Err OutsideMemory)
take-outside q queue m n f equal =
    let process : q.front ≢ not_process = λ h. (let p = take_empty q m h in cc) in
    let last : q.front ≢ q.back = λ h. (let p = take_last q m process h in cc) in
    let unread = followed-stayed _ _ _ _ _ _ (sym (take_more q m process last) ∙ equal) in
    let same = word_at-fault m (link_of q.front) f unread in
    (same, process, last, rw (← same) unread)

-- the first is taken, and the others stay
pub stands-take : (ws : List ℕ) (q : Queue) (m : List ℕ) → Stands m q ws
    → (queue : Queue) × (after_take q m ≡ Gave (first ws) queue m) × Stands m queue (others ws)
stands-take [] q m stands = (q, take_empty q m stands, stands)
stands-take (w ∷ []) q m stands = (
  record { front = not_process; back = q.back },
  take_last q m (rw stands.0 stands.1.1.0.process) (stands.0 ∙ sym stands.1.0)
      ∙ ap (λ x. Gave (Some x) (record { front = not_process; back = q.back }) m) stands.0,
  refl,
)
stands-take (w ∷ v ∷ vs) q m stands = (
  record { front = v; back = q.back },
  take_more q m (rw stands.0 stands.1.1.0.process)
      (λ e. last_differs m w v vs q.back stands.1.1.1.0 stands.1.0.1 (sym stands.0 ∙ e))
      ∙ (let e : word_at m (link_of q.front) ≡ Ok v = rw stands.0 stands.1.0.0 in rw (e, stands.0) refl),
  (refl, (stands.1.0.1, stands.1.1.1.1)),
)

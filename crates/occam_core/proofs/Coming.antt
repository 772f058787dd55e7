-- The other law of traces: each of a sequential process is what it does if the right bytes come.
use Rattle.std.proofs.Common.{◌≡◌, ℕ, zero, suc, ◌+◌, ◌*◌, ◌^◌, ◌<◌, ◌≤◌, inl, inr, List, [], ◌∷◌, ◌++◌, length, take, drop, Option, Some, None, refl, sym, ap, ◌∙◌, subst, arith, Bool, true, false, append-nil, append_assoc, nat_le, nat_lt, pos}
use Rattle.std.specs.Prelude.{◌==◌, ◌⊎◌, if◌then◌else◌, int_lt, slice_index, slice_set}
use Rattle.std.proofs.lemmas.Bool.Decides.{nat_tests}
use Rattle.std.proofs.lemmas.Grind.{common_steps}
use Rattle.node_memory.specs.Words.{◌⊕◌, signed}
use Rattle.occam_core.specs.declared.channel.CoreChannel.TheVariants.{Link}
use Rattle.occam_core.specs.declared.channel.MessageKind.{MessageKind}
use Rattle.occam_core.specs.declared.expression.CoreArray.{CoreArray}
use Rattle.occam_core.specs.declared.process.CoreProcess.{CoreProcess}
use Rattle.occam_core.specs.declared.process.CoreProcess.TheVariants.{Skip, Stop, Line', Assign, AssignElement, Copy, Channels, Input, InputElement, InputArray, Output, OutputArray, Sequence', Parallel', Choose', If', While', Repeat'}
use Rattle.occam_core.specs.Values.{of_one, value}
use Rattle.occam_core.specs.Processes.{Exchange, Said, Heard, Situation, Course, Ended, Erred, Awaits, Unfinished, then_do, value_then, assigned, with_element, with_bytes_in, bytes_of_store, bytes_of_element, array_size, bytes_in, value_heard, bytes_said, turns, turns_left, turn_over, rounds, does, IsSequential}
use Rattle.occam_core.specs.Traces.{Traces, TraceOutcome, Complete, Broken, Partial, IsEndAt, IsErrorAt, IsMessage, IsCutAt, IsUnended, WithValue, element_number, Consecutive, Turns, IndexTurns, store_after_turn, Runs}
use Rattle.occam_core.specs.Laws.{talk_of, GoesAsFar, RunsAreDone}
use Rattle.occam_core.proofs.Tracing.{AreBytes, Trace, Goes, Listens, NextRound, Counted, repeated, goes, turns_go, rounds_go, next_round, value_of_first}

-- a process from a store on, by what comes and by what was said before
abbrev By : Type 0
By = List ℕ → List Exchange → Course

-- it has gone so far, and the rest still comes
abbrev Came : Course → List ℕ → List Exchange → List Exchange → TraceOutcome → Type 0
Came course extra before t (Complete last) = course ≡ Ended
    (record { store = last; coming = extra; talk = before ++ t })
Came course extra before t Broken = course ≡ Erred (before ++ t)
Came course extra before t Partial = (rest : List Exchange) × (talk_of course ≡ before ++ (t ++ rest))

-- some bytes bring it so far
abbrev Back : By → List Exchange → TraceOutcome → Type 0
Back by t e =
    (coming : List ℕ) × AreBytes coming
    × ((extra : List ℕ) (before : List Exchange) → AreBytes extra → Came (by
    (coming ++ extra) before) extra before t e)

no_bytes : AreBytes []
no_bytes i = omega arith

-- nothing was said
nothing : (before t : List Exchange) → t ≡ [] → before ≡ before ++ t
nothing before t none = sym (append-nil before) ∙ ap (λ list. before ++ list) (sym none)

-- an error
back_error : (t : List Exchange) (e : TraceOutcome) → IsErrorAt t e → Back (λ coming before. Erred before) t e
back_error t (Complete store) run = absurd run
back_error t Broken run = ([], no_bytes, λ extra before bytes. ap Erred (nothing before t run))
back_error t Partial run =
    ([], no_bytes, λ extra before bytes. ([], nothing before (t ++ []) (append-nil t ∙ run)))

-- an end
back_end : (last : List ℕ) (t : List Exchange) (e : TraceOutcome) → IsEndAt last t e
    → Back (λ coming before. Ended (record { store = last; coming = coming; talk = before })) t e
back_end last t (Complete store) run = (
  [],
  no_bytes,
  λ extra before bytes. ap (λ list. Ended (record { store = last; coming = extra; talk = list }))
      (nothing before t run.0)
      ∙ ap (λ s. Ended (record { store = s; coming = extra; talk = before ++ t })) (sym run.1),
)
back_end last t Broken run = absurd run
back_end last t Partial run =
    ([], no_bytes, λ extra before bytes. ([], nothing before (t ++ []) (append-nil t ∙ run)))

-- a value, or an error
back_value : (given : Option ℕ) (trace : ℕ → Trace) (by : ℕ → By) (t : List Exchange) (e : TraceOutcome)
    → ((x : ℕ) → trace x t e → Back (by x) t e) → WithValue given t e (λ x. trace x t e)
    → Back (λ coming before. value_then given before (λ x. by x coming before)) t e
back_value None trace by t e each run = back_error t e run
back_value (Some x) trace by t e each run = each x run

-- an element, or an error
back_has : (has : Bool) (k : ℕ) (trace : ℕ → Trace) (by : By) (t : List Exchange) (e : TraceOutcome)
    → (trace k t e → Back by t e) → WithValue (if has then Some k else None) t e (λ x. trace x t e)
    → Back (λ coming before. if has then by coming before else Erred before) t e
back_has true k trace by t e each run = each run
back_has false k trace by t e each run = back_error t e run

back_element : (array : CoreArray) (given : Option ℕ) (trace : ℕ → Trace) (by : ℕ → By) (t : List Exchange)
    (e : TraceOutcome)
    → ((x : ℕ) → trace x t e → Back (by x) t e)
    → WithValue (of_one (element_number array) given) t e (λ x. trace x t e)
    → Back (λ coming before. value_then given before
    (λ k. if nat_lt k array.length then by k coming before else Erred before))
    t e
back_element array None trace by t e each run = back_error t e run
back_element array (Some k) trace by t e each run =
    back_has (nat_lt k array.length) k trace (by k) t e (each k) run

-- the first bytes of what comes, and the rest
taken_first : (list m : List ℕ) → take (length list) (list ++ m) ≡ list
taken_first list m = grind (arith, common_steps)

left_then : (list m : List ℕ) → drop (length list) (list ++ m) ≡ m
left_then list m = grind (arith, common_steps)

enough : (list m : List ℕ) → nat_le (length list) (length (list ++ m)) ≡ true
enough list m = grind (arith, nat_tests, common_steps)

-- what an input does
abbrev listens : ℕ → ℕ → (List ℕ → List ℕ) → By
listens c count store_with coming before =
    if nat_le count (length coming)
    then Ended (record {
      store = store_with (take count coming);
      coming = drop count coming;
      talk = before ++ Heard c (take count coming) ∷ [];
    })
    else Awaits before

-- with as many bytes
listened : (c count : ℕ) (store_with : List ℕ → List ℕ) (bytes extra : List ℕ) (before : List Exchange)
    → length bytes ≡ count
    → listens c count store_with (bytes ++ extra) before
    ≡ Ended (record { store = store_with bytes; coming = extra; talk = before ++ Heard c bytes ∷ [] })
listened c count store_with bytes extra before long =
    ap (λ n. listens c n store_with (bytes ++ extra) before) (sym long)
    ∙ ap (λ b. if b then Ended (record {
      store = store_with (take (length bytes) (bytes ++ extra));
      coming = drop (length bytes) (bytes ++ extra);
      talk = before ++ Heard c (take (length bytes) (bytes ++ extra)) ∷ [];
    }) else Awaits before) (enough bytes extra)
    ∙ ap (λ list. Ended (record {
      store = store_with list;
      coming = drop (length bytes) (bytes ++ extra);
      talk = before ++ Heard c list ∷ [];
    })) (taken_first bytes extra)
    ∙ ap (λ list. Ended (record { store = store_with bytes; coming = list; talk = before ++ Heard c bytes ∷ [] }))
    (left_then bytes extra)

-- one message
back_message : (x : Exchange) (last : List ℕ) (t : List Exchange) (e : TraceOutcome) (by : By) (coming : List ℕ)
    → AreBytes coming
    → ((extra : List ℕ) (before : List Exchange)
    → by (coming ++ extra) before ≡ Ended (record { store = last; coming = extra; talk = before ++ x ∷ [] }))
    → IsMessage x last t e → Back by t e
back_message x last t (Complete store) by coming bytes is run = (
  coming,
  bytes,
  λ extra before more. is extra before
      ∙ ap (λ list. Ended (record { store = last; coming = extra; talk = before ++ list })) (sym run.0)
      ∙ ap (λ s. Ended (record { store = s; coming = extra; talk = before ++ t })) (sym run.1),
)
back_message x last t Broken by coming bytes is run = absurd run
back_message x last t Partial by coming bytes is (inl none) = (
  coming,
  bytes,
  λ extra before more. (
    x ∷ [],
    ap talk_of (is extra before)
        ∙ ap (λ list. before ++ (list ++ x ∷ [])) (sym none),
  ),
)
back_message x last t Partial by coming bytes is (inr one) = (
  coming,
  bytes,
  λ extra before more. (
    [],
    ap talk_of (is extra before)
        ∙ ap (λ list. before ++ list) (sym one ∙ sym (append-nil t)),
  ),
)

-- the same of a variable
input_listens : (c v : ℕ) (kind : MessageKind) (store coming : List ℕ) (before : List Exchange) (has : Bool)
    → nat_le (bytes_in kind) (length coming) ≡ has
    → (if has
    then Ended (record {
      store = slice_set store v (value_heard kind coming);
      coming = drop (bytes_in kind) coming;
      talk = before ++ Heard c (take (bytes_in kind) coming) ∷ [];
    })
    else Awaits before)
    ≡ (if has
    then Ended (record {
      store = slice_set store v (value_heard kind (take (bytes_in kind) coming));
      coming = drop (bytes_in kind) coming;
      talk = before ++ Heard c (take (bytes_in kind) coming) ∷ [];
    })
    else Awaits before)
input_listens c v kind store coming before true is =
    ap (λ x. Ended (record {
      store = slice_set store v x;
      coming = drop (bytes_in kind) coming;
      talk = before ++ Heard c (take (bytes_in kind) coming) ∷ [];
    })) (sym (value_of_first kind coming is))
input_listens c v kind store coming before false is = refl

back_listens : (c count : ℕ) (store_with : List ℕ → List ℕ) (t : List Exchange) (e : TraceOutcome)
    → Listens c count store_with t e → Back (listens c count store_with) t e
back_listens c count store_with t e run =
    back_message (Heard c run.0) (store_with run.0) t e (listens c count store_with) run.0 run.2
    (λ extra before. listened c count store_with run.0 extra before run.1) run.3

-- joined bytes
joined_bytes : (list m : List ℕ) → AreBytes list → AreBytes m → AreBytes (list ++ m)
joined_bytes [] m one two i = two i
joined_bytes (x ∷ list) m one two zero = one 0
joined_bytes (x ∷ list) m one two (suc i) = joined_bytes list m (λ j. one (suc j)) two i

-- a process from a store on
abbrev from : (Situation → Course) → List ℕ → By
from step store coming before = step (record { store = store; coming = coming; talk = before })

-- what was said since
said_since : (trace : Trace) (before : List Exchange) (course : Course) → Goes trace before course
    → (t : List Exchange) × (talk_of course ≡ before ++ t)
said_since trace before (Ended at) goes = (goes.0, goes.1)
said_since trace before (Erred talk) goes = (goes.0, goes.1)
said_since trace before (Awaits talk) goes = (goes.0, goes.1)
said_since trace before (Unfinished talk) goes = (goes.0, goes.1)

-- what goes on says more
more_said : (trace : Trace) (before list : List Exchange) (course : Course) (next : Situation → Course)
    (after : Situation → Trace) → Goes trace before course
    → ((end : Situation) → AreBytes end.coming → Goes (after end) end.talk (next end))
    → (rest : List Exchange) → talk_of course ≡ list ++ rest
    → (more : List Exchange) × (talk_of (then_do course next) ≡ list ++ more)
more_said trace before list (Ended end) next after traced goes_then rest is =
    let later = said_since (after end) end.talk (next end) (goes_then end traced.3) in
    (rest ++ later.0, later.1 ∙ ap (λ k. k ++ later.0) is ∙ append_assoc list rest later.0)
more_said trace before list (Erred talk) next after traced goes_then rest is = (rest, is)
more_said trace before list (Awaits talk) next after traced goes_then rest is = (rest, is)
more_said trace before list (Unfinished talk) next after traced goes_then rest is = (rest, is)

-- one after the other, if the first hasn't ended
first_unended : (first second : Traces) (one two : Situation → Course) (store : List ℕ) (t : List Exchange)
    (e : TraceOutcome)
    → ((at : Situation) → AreBytes at.coming → Goes (first at.store) at.talk (one at))
    → ((at : Situation) → AreBytes at.coming → Goes (second at.store) at.talk (two at))
    → IsUnended e → Back (from one store) t e → Back (from (λ at. then_do (one at) two) store) t e
first_unended first second one two store t (Complete last) goes_one goes_two unended back = absurd unended
first_unended first second one two store t Broken goes_one goes_two unended back =
    (back.0, back.1, λ extra before bytes. ap (λ c. then_do c two) (back.2 extra before bytes))
first_unended first second one two store t Partial goes_one goes_two unended back = (
  back.0,
  back.1,
  λ extra before bytes.
      let at : Situation = record { store = store; coming = back.0 ++ extra; talk = before } in
      let came = back.2 extra before bytes in
      let said = more_said (first store) before (before ++ t) (one at) two (λ end. second end.store)
      (goes_one at (joined_bytes back.0 extra back.1 bytes)) goes_two came.0
      (came.1 ∙ sym (append_assoc before t came.0)) in
      (said.0, said.1 ∙ append_assoc before t said.0),
)

-- the same course by another way to say what was before
came_same : (course : Course) (extra : List ℕ) (before s u t : List Exchange) (e : TraceOutcome) → t ≡ s ++ u
    → Came course extra (before ++ s) u e → Came course extra before t e
came_same course extra before s u t (Complete last) is came =
    came ∙ ap (λ list. Ended (record { store = last; coming = extra; talk = list }))
    (append_assoc before s u ∙ ap (λ list. before ++ list) (sym is))
came_same course extra before s u t Broken is came =
    came ∙ ap Erred (append_assoc before s u ∙ ap (λ list. before ++ list) (sym is))
came_same course extra before s u t Partial is came = (
  came.0,
  came.1 ∙ append_assoc before s (u ++ came.0) ∙ ap (λ list. before ++ list) (sym (append_assoc s u came.0))
      ∙ ap (λ list. before ++ (list ++ came.0)) (sym is),
)

-- if it has
second_goes_on : (one two : Situation → Course) (store middle : List ℕ) (s u t : List Exchange)
    (e : TraceOutcome) → t ≡ s ++ u
    → Back (from one store) s (Complete middle) → Back (from two middle) u e → Back (from (λ at. then_do
    (one at) two) store) t e
second_goes_on one two store middle s u t e is first second = (
  first.0 ++ second.0,
  joined_bytes first.0 second.0 first.1 second.1,
  λ extra before bytes.
      let came = first.2 (second.0 ++ extra) before (joined_bytes second.0 extra second.1 bytes) in
      let course = then_do (from one store (first.0 ++ second.0 ++ extra) before) two in
      let same : course ≡ from two middle (second.0 ++ extra) (before ++ s) =
      ap (λ list. then_do (from one store list before) two) (append_assoc first.0 second.0 extra)
      ∙ ap (λ c. then_do c two) came in
      subst (λ c. Came c extra before t e) (sym same)
      (came_same (from two middle (second.0 ++ extra) (before ++ s)) extra before s u t e is
      (second.2 extra (before ++ s) bytes)),
)

back_goes_on : (first second : Traces) (one two : Situation → Course) (store : List ℕ) (t : List Exchange)
    (e : TraceOutcome)
    → ((at : Situation) → AreBytes at.coming → Goes (first at.store) at.talk (one at))
    → ((at : Situation) → AreBytes at.coming → Goes (second at.store) at.talk (two at))
    → ((list : List Exchange) (f : TraceOutcome) → first store list f → Back (from one store) list f)
    → ((middle : List ℕ) (list : List Exchange) (f : TraceOutcome) → second middle list f → Back
    (from two middle) list f)
    → Consecutive first second store t e → Back (from (λ at. then_do (one at) two) store) t e
back_goes_on first second one two store t e goes_one goes_two back_one back_two (inl run) =
    first_unended first second one two store t e goes_one goes_two run.0 (back_one t e run.1)
back_goes_on first second one two store t e goes_one goes_two back_one back_two (inr run) =
    second_goes_on one two store run.2 run.0 run.1 t e run.3 (back_one run.0 (Complete run.2) run.4)
    (back_two run.2 run.1 e run.5)

-- one of two ways
is_zero : (x : ℕ) → x ≡ 0 → (x == 0) ≡ true
is_zero x is = grind (arith, nat_tests)

isn't_zero : (x : ℕ) → 1 ≤ x → (x == 0) ≡ false
isn't_zero x is = grind (arith, nat_tests)

back_if : (b is : Bool) (by other : By) (t : List Exchange) (e : TraceOutcome) → b ≡ is
    → Back (if is then by else other) t e → Back
    (λ coming before. if b then by coming before else other coming before) t e
back_if true is by other t e same back = subst (λ q. Back (if q then by else other) t e) (sym same) back
back_if false is by other t e same back = subst (λ q. Back (if q then by else other) t e) (sym same) back

back_either : (x : ℕ) (none some : Trace) (by other : By) (t : List Exchange) (e : TraceOutcome)
    → (none t e → Back by t e) → (some t e → Back other t e) → ((x ≡ 0) × none t e) ⊎ ((1 ≤ x) × some t e)
    → Back (λ coming before. if x == 0 then by coming before else other coming before) t e
back_either x none some by other t e first second (inl run) =
    back_if (x == 0) true by other t e (is_zero x run.0) (first run.1)
back_either x none some by other t e first second (inr run) =
    back_if (x == 0) false by other t e (isn't_zero x run.0) (second run.1)

-- a loop that was given no turn more
back_cut : (t : List Exchange) (e : TraceOutcome) → IsCutAt t e → Back (λ coming before. Unfinished before) t e
back_cut t e run =
    subst (Back (λ coming before. Unfinished before) t) (sym run.1)
    ([], no_bytes, λ extra before bytes. ([], nothing before (t ++ []) (append-nil t ∙ run.0)))

module _ (body : Traces) (step : Situation → Course)
    (goes_body : (at : Situation) → AreBytes at.coming → Goes (body at.store) at.talk (step at))
    (back_body : (store : List ℕ) (t : List Exchange) (e : TraceOutcome) → body store t e → Back
    (from step store) t e) where
  back_turns : (test : List ℕ → Option ℕ) (n : ℕ) (store : List ℕ) (t : List Exchange) (e : TraceOutcome)
      → Turns n test body store t e → Back (from (turns n (λ now. test now.store) step) store) t e
  back_turns test zero store t e run = back_cut t e run
  back_turns test (suc n) store t e run =
      let next = turns n (λ now. test now.store) step in
      let again = from (λ at. then_do (step at) next) store in
      back_value (test store) (λ x list f. ((x ≡ 0) × IsEndAt store list f) ⊎ ((1 ≤ x) × Consecutive body
      (Turns n test body) store list f))
      (λ x coming before. if x == 0 then from Ended store coming before else again coming before) t e
      (λ x. back_either x (IsEndAt store) (Consecutive body (Turns n test body) store)
      (from Ended store) again t e (back_end store t e)
      (back_goes_on body (Turns n test body) step next store t e goes_body
      (turns_go test body step goes_body n) (back_body store) (back_turns test n)))
      run

  -- what comes after a turn of a loop with an index
  abbrev after_turn : ℕ → ℕ → Situation → Course
  after_turn n v end =
      if int_lt (pos 1) (signed (turns_left v end))
      then rounds n v step (assigned v (slice_index end.store v ⊕ 1) (turn_over v end))
      else Ended (turn_over v end)

  back_next : (v n : ℕ) (middle : List ℕ) (t : List Exchange) (e : TraceOutcome)
      → ((store : List ℕ) (list : List Exchange) (f : TraceOutcome) → IndexTurns n v body store list f → Back
      (from (rounds n v step) store) list f)
      → NextRound n v body middle t e → Back (from (after_turn n v) middle) t e
  back_next v n middle t e back (inl run) =
      back_if (int_lt (pos 1) (signed (slice_index middle (v + 1)))) false
      (from (λ end. rounds n v step (assigned v (slice_index end.store v ⊕ 1) (turn_over v end))) middle)
      (from (λ end. Ended (turn_over v end)) middle) t e run.0 (back_end (store_after_turn v middle) t e run.1)
  back_next v n middle t e back (inr run) =
      back_if (int_lt (pos 1) (signed (slice_index middle (v + 1)))) true
      (from (λ end. rounds n v step (assigned v (slice_index end.store v ⊕ 1) (turn_over v end))) middle)
      (from (λ end. Ended (turn_over v end)) middle) t e run.0
      (back (slice_set (store_after_turn v middle) v (slice_index middle v ⊕ 1)) t e run.1)

  back_rounds : (v n : ℕ) (store : List ℕ) (t : List Exchange) (e : TraceOutcome) → IndexTurns n v body store t e
      → Back (from (rounds n v step) store) t e
  back_rounds v zero store t e run = back_cut t e run
  back_rounds v (suc n) store t e run =
      back_goes_on body (NextRound n v body) step (after_turn n v) store t e goes_body
      (λ end rest. next_round n v body step end (int_lt (pos 1) (signed (turns_left v end))) rest refl
      (rounds_go v body step goes_body n))
      (back_body store) (λ middle list f. back_next v n middle list f (back_rounds v n)) run

  below_bound : (k : ℕ) → k < 2 ^ 31 → nat_le (2 ^ 31) k ≡ false
  below_bound k is = grind (arith, nat_tests)

  past_bound : (k : ℕ) → 2 ^ 31 ≤ k → nat_le (2 ^ 31) k ≡ true
  past_bound k is = grind (arith, nat_tests)

  none_below : (k : ℕ) → k ≡ 0 → k < 2 ^ 31
  none_below k is = omega (arith, is)

  back_counted : (n v : ℕ) (begun : List ℕ) (k : ℕ) (t : List Exchange) (e : TraceOutcome)
      → Counted n v body begun k t e
      → Back (from (λ at. repeated n v step at k) begun) t e
  back_counted n v begun k t e (inl run) =
      back_if (nat_le (2 ^ 31) k) true (λ coming before. Erred before)
      (from (λ at. if k == 0 then Ended (assigned (v + 1) k at) else rounds n v step (assigned
      (v + 1) k at)) begun) t e
      (past_bound k run.0) (back_error t e run.1)
  back_counted n v begun k t e (inr (inl run)) =
      back_if (nat_le (2 ^ 31) k) false (λ coming before. Erred before)
      (from (λ at. if k == 0 then Ended (assigned (v + 1) k at) else rounds n v step (assigned
      (v + 1) k at)) begun) t e
      (below_bound k (none_below k run.0))
      (back_if (k == 0) true (from Ended (slice_set begun (v + 1) k))
      (from (rounds n v step) (slice_set begun (v + 1) k)) t e (is_zero k run.0)
      (back_end (slice_set begun (v + 1) k) t e run.1))
  back_counted n v begun k t e (inr (inr run)) =
      back_if (nat_le (2 ^ 31) k) false (λ coming before. Erred before)
      (from (λ at. if k == 0 then Ended (assigned (v + 1) k at) else rounds n v step (assigned
      (v + 1) k at)) begun) t e
      (below_bound k run.1)
      (back_if (k == 0) false (from Ended (slice_set begun (v + 1) k))
      (from (rounds n v step) (slice_set begun (v + 1) k)) t e (isn't_zero k run.0)
      (back_rounds v n (slice_set begun (v + 1) k) t e run.2))

-- a message to a variable
back_input : (c v : ℕ) (kind : MessageKind) (store : List ℕ) (t : List Exchange) (e : TraceOutcome)
    → Listens c (bytes_in kind) (λ bytes. slice_set store v (value_heard kind bytes)) t e
    → Back (from (does 0 (Input (Link c) kind v)) store) t e
back_input c v kind store t e run =
    back_message (Heard c run.0) (slice_set store v (value_heard kind run.0)) t e (from (does 0 (Input
    (Link c) kind v)) store)
    run.0 run.2 (λ extra before. input_listens c v kind store (run.0 ++ extra) before
    (nat_le (bytes_in kind) (length (run.0 ++ extra))) refl
    ∙ listened c (bytes_in kind) (λ bytes. slice_set store v (value_heard kind bytes)) run.0 extra before run.1)
    run.3

-- a sequential process
back : (p : CoreProcess) → IsSequential p → (n : ℕ) (store : List ℕ) (t : List Exchange) (e : TraceOutcome)
    → Runs n p store t e
    → Back (from (does n p) store) t e
back Skip sequential n store t e run = back_end store t e run
back Stop sequential n store t e run = back_error t e run
back (Line' place p a) sequential n store t e run = back a sequential n store t e run
back (Assign v x) sequential n store t e run =
    back_value (value x store) (λ w. IsEndAt (slice_set store v w)) (λ w. from Ended (slice_set store v w)) t e
    (λ w. back_end (slice_set store v w) t e) run
back (AssignElement array i x) sequential n store t e run =
    back_value (value x store)
    (λ w list f. WithValue (of_one (element_number array) (value i store)) list f
    (λ k. IsEndAt (with_element array.kind array.first store k w) list f))
    (λ w coming before. value_then (value i store) before
    (λ k. if nat_lt k array.length
    then from Ended (with_element array.kind array.first store k w) coming before
    else Erred before)) t e
    (λ w. back_element array (value i store) (λ k. IsEndAt (with_element array.kind array.first store k w))
    (λ k. from Ended (with_element array.kind array.first store k w)) t e
    (λ k. back_end (with_element array.kind array.first store k w) t e)) run
back (Copy to from') sequential n store t e run =
    back_end (with_bytes_in store (4 * to.first) (bytes_of_store (array_size to) store (4 * from'.first))) t e run
back (Input (Link c) kind v) sequential n store t e run = back_input c v kind store t e run
back (InputElement (Link c) array i) sequential n store t e run =
    let size = bytes_of_element array.kind in
    back_element array (value i store) (λ k. Listens c size (with_bytes_in store (4 * array.first + k * size)))
    (λ k. listens c size (with_bytes_in store (4 * array.first + k * size))) t e
    (λ k. back_listens c size (with_bytes_in store (4 * array.first + k * size)) t e) run
back (InputArray (Link c) array) sequential n store t e run =
    back_listens c (array_size array) (with_bytes_in store (4 * array.first)) t e run
back (OutputArray (Link c) array) sequential n store t e run =
    back_message (Said c (bytes_of_store (array_size array) store (4 * array.first))) store t e
    (from (does n (OutputArray (Link c) array)) store) [] no_bytes (λ extra before. refl) run
back (Output (Link c) kind x) sequential n store t e run =
    back_value (value x store) (λ w. IsMessage (Said c (bytes_said kind w)) store)
    (λ w coming before. Ended (record {
      store = store;
      coming = coming;
      talk = before ++ Said c (bytes_said kind w) ∷ [];
    })) t e
    (λ w. back_message (Said c (bytes_said kind w)) store t e
    (λ coming before. Ended (record {
      store = store;
      coming = coming;
      talk = before ++ Said c (bytes_said kind w) ∷ [];
    })) [] no_bytes (λ extra before. refl)) run
back (Sequence' p a q b) sequential n store t e run =
    back_goes_on (Runs n a) (Runs n b) (does n a) (does n b) store t e (goes a sequential.0 n) (goes b sequential.1 n)
    (back a sequential.0 n store) (back b sequential.1 n) run
back (If' c p a q b) sequential n store t e run =
    back_value (value c store) (λ x list f. ((x ≡ 0) × Runs n b store list f) ⊎ ((1 ≤ x) × Runs n a store list f))
    (λ x coming before. if x == 0 then from (does n b) store coming before else from
    (does n a) store coming before) t e
    (λ x. back_either x (Runs n b store) (Runs n a store) (from (does n b) store) (from (does n a) store) t e
    (back b sequential.1 n store t e) (back a sequential.0 n store t e)) run
back (While' c p a) sequential n store t e run =
    back_turns (Runs n a) (does n a) (goes a sequential n) (back a sequential n) (value c) n store t e run
back (Repeat' v base count p a) sequential n store t e run =
    back_value (value base store)
    (λ x list f. let begun = slice_set store v x in
    WithValue (value count begun) list f (λ k. Counted n v (Runs n a) begun k list f))
    (λ x coming before. value_then (value count (slice_set store v x)) before
    (λ k. from (λ at. repeated n v (does n a) at k) (slice_set store v x) coming before)) t e
    (λ x. back_value (value count (slice_set store v x)) (Counted n v (Runs n a) (slice_set store v x))
    (λ k. from (λ at. repeated n v (does n a) at k) (slice_set store v x)) t e
    (λ k. back_counted (Runs n a) (does n a) (goes a sequential n) (back a sequential n) n v
    (slice_set store v x) k t e))
    run
back (Input c kind v) sequential n store t e run = absurd sequential
back (InputElement c array i) sequential n store t e run = absurd sequential
back (InputArray c array) sequential n store t e run = absurd sequential
back (Output c kind x) sequential n store t e run = absurd sequential
back (OutputArray c array) sequential n store t e run = absurd sequential
back (Channels v count) sequential n store t e run = absurd sequential
back (Parallel' p a q b) sequential n store t e run = absurd sequential
back (Choose' g p a q b) sequential n store t e run = absurd sequential

-- the whole, from the first word on
came_to : (course : Course) (t : List Exchange) (e : TraceOutcome) → Came course [] [] t e → GoesAsFar course t e
came_to course t (Complete last) came = came
came_to course t Broken came = came
came_to course t Partial came = came

-- the law
pub done : RunsAreDone
done p sequential n store t e run =
    let b = back p sequential n store t e run in (
      b.0,
      b.1,
      came_to (from (does n p) store b.0 []) t e
          (subst (λ list. Came (from (does n p) store list []) [] [] t e) (append-nil b.0) (b.2 [] [] no_bytes)),
    )

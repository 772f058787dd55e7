-- The law of traces: what a sequential process does is one of them.
use Rattle.std.proofs.Common.{◌≡◌, ℕ, zero, suc, ◌+◌, ◌*◌, ◌^◌, ◌<◌, ◌≤◌, inl, inr, List, [], ◌∷◌, ◌++◌, length, take, drop, Option, Some, None, refl, sym, ap, ◌∙◌, subst, arith, Bool, true, false, append-nil, append_assoc, nat_le, nat_lt, pos}
use Rattle.std.specs.Prelude.{◌==◌, ◌⊎◌, if◌then◌else◌, int_lt, slice_index, slice_set}
use Rattle.std.proofs.lemmas.Bool.Decides.{nat_tests}
use Rattle.std.proofs.lemmas.Grind.{common_steps}
use Rattle.node_memory.specs.Words.{◌⊕◌, signed}
use Rattle.occam_core.specs.declared.channel.CoreChannel.TheVariants.{Link}
use Rattle.occam_core.specs.declared.channel.MessageKind.{MessageKind}
use Rattle.occam_core.specs.declared.channel.MessageKind.TheVariants as message
use Rattle.occam_core.specs.declared.expression.CoreArray.{CoreArray}
use Rattle.occam_core.specs.declared.process.CoreProcess.{CoreProcess}
use Rattle.occam_core.specs.declared.process.CoreProcess.TheVariants.{Skip, Stop, Line', Assign, AssignElement, Copy, Channels, Input, InputElement, InputArray, Output, OutputArray, Sequence', Parallel', Choose', If', While', Repeat'}
use Rattle.occam_core.specs.Values.{of_one, value}
use Rattle.occam_core.specs.Processes.{Exchange, Said, Heard, Situation, Course, Ended, Erred, Awaits, Unfinished, then_do, value_then, assigned, with_element, with_bytes_in, bytes_of_element, array_size, heard, bytes_in, value_heard, bytes_said, turns, turns_left, turn_over, rounds, does, IsSequential}
use Rattle.occam_core.specs.Traces.{Traces, TraceOutcome, Complete, Broken, Partial, IsEndAt, IsErrorAt, IsMessage, WithValue, WithElement, element_number, Consecutive, Turns, IndexTurns, store_after_turn, Runs}
use Rattle.occam_core.specs.Laws.{IsTraced, SequentialRuns}

-- all of them are bytes
abbrev pub AreBytes : List ℕ → Type 0
AreBytes list = (i : ℕ) → slice_index list i < 2 ^ 8

-- the traces from a store on
abbrev pub Trace : Type 1
Trace = List Exchange → TraceOutcome → Type 0

-- a course is traced, and what comes after an end are bytes too
abbrev pub Goes : Trace → List Exchange → Course → Type 0
Goes trace before (Ended at) =
    (t : List Exchange) × (at.talk ≡ before ++ t) × trace t (Complete at.store) × AreBytes at.coming
Goes trace before (Erred talk) = (t : List Exchange) × (talk ≡ before ++ t) × trace t Broken
Goes trace before (Awaits talk) = (t : List Exchange) × (talk ≡ before ++ t) × trace t Partial
Goes trace before (Unfinished talk) = (t : List Exchange) × (talk ≡ before ++ t) × trace t Partial

-- a course without what comes after it
only_traced : (trace : Trace) (before : List Exchange) (course : Course) → Goes trace before course
    → IsTraced trace before course
only_traced trace before (Ended at) goes = (goes.0, goes.1, goes.2)
only_traced trace before (Erred talk) goes = goes
only_traced trace before (Awaits talk) goes = goes
only_traced trace before (Unfinished talk) goes = goes

-- the same for traces that have all of others
through : (trace other : Trace) (before : List Exchange) (course : Course)
    → ((t : List Exchange) (e : TraceOutcome) → trace t e → other t e) → Goes trace before course
    → Goes other before course
through trace other before (Ended at) has goes = (goes.0, goes.1, has goes.0 (Complete at.store) goes.2, goes.3)
through trace other before (Erred talk) has goes = (goes.0, goes.1, has goes.0 Broken goes.2)
through trace other before (Awaits talk) has goes = (goes.0, goes.1, has goes.0 Partial goes.2)
through trace other before (Unfinished talk) has goes = (goes.0, goes.1, has goes.0 Partial goes.2)

-- nothing was said
nothing_said : (talk : List Exchange) → talk ≡ talk ++ []
nothing_said talk = sym (append-nil talk)

-- a value, or an error
by_value : (given : Option ℕ) (trace : ℕ → Trace) (before : List Exchange) (course : ℕ → Course)
    → ((x : ℕ) → Goes (trace x) before (course x))
    → Goes (λ t e. WithValue given t e (λ x. trace x t e)) before (value_then given before course)
by_value None trace before course goes = ([], nothing_said before, refl)
by_value (Some x) trace before course goes = goes x

-- an element that the array has, or an error
if_has : (has : Bool) (k : ℕ) (trace : ℕ → Trace) (before : List Exchange) (course : Course)
    → Goes (trace k) before course
    → Goes (λ t e. WithValue (if has then Some k else None) t e (λ x. trace x t e)) before
    (if has then course else Erred before)
if_has false k trace before course goes = ([], nothing_said before, refl)
if_has true k trace before course goes = goes

by_element : (array : CoreArray) (given : Option ℕ) (trace : ℕ → Trace) (before : List Exchange) (course : ℕ → Course)
    → ((k : ℕ) → Goes (trace k) before (course k))
    → Goes (λ t e. WithValue (of_one (element_number array) given) t e (λ x. trace x t e)) before
    (value_then given before (λ k. if nat_lt k array.length then course k else Erred before))
by_element array None trace before course goes = ([], nothing_said before, refl)
by_element array (Some k) trace before course goes =
    if_has (nat_lt k array.length) k trace before (course k) (goes k)

-- zeros
pub zeros : ℕ → List ℕ
zeros zero = []
zeros (suc n) = 0 ∷ zeros n

-- as many
pub length_zeros : (n : ℕ) → length (zeros n) ≡ n
unfolding zeros
length_zeros zero = refl
length_zeros (suc n) = ap suc (length_zeros n)

-- each is a byte
pub zeros_are_bytes : (n : ℕ) → AreBytes (zeros n)
unfolding zeros
zeros_are_bytes zero i = omega arith
zeros_are_bytes (suc n) zero = omega arith
zeros_are_bytes (suc n) (suc i) = zeros_are_bytes n i

-- a part of bytes
first_are_bytes : (n : ℕ) (list : List ℕ) → AreBytes list → AreBytes (take n list)
first_are_bytes zero list bytes i = omega arith
first_are_bytes (suc n) [] bytes i = omega arith
first_are_bytes (suc n) (x ∷ list) bytes zero = bytes 0
first_are_bytes (suc n) (x ∷ list) bytes (suc i) = first_are_bytes n list (λ j. bytes (suc j)) i

rest_are_bytes : (n : ℕ) (list : List ℕ) → AreBytes list → AreBytes (drop n list)
rest_are_bytes zero list bytes = bytes
rest_are_bytes (suc n) [] bytes = bytes
rest_are_bytes (suc n) (x ∷ list) bytes = rest_are_bytes n list (λ j. bytes (suc j))

-- as many as were asked for
pub length_first : (n : ℕ) (list : List ℕ) → nat_le n (length list) ≡ true → length (take n list) ≡ n
length_first n list enough = grind (arith, nat_tests, common_steps)

-- the value of a message is of its bytes alone
pub value_of_first : (kind : MessageKind) (list : List ℕ) → nat_le (bytes_in kind) (length list) ≡ true
    → value_heard kind (take (bytes_in kind) list) ≡ value_heard kind list
value_of_first message.Byte [] enough = refl
value_of_first message.Byte (x ∷ list) enough = refl
value_of_first message.Word [] enough = refl
value_of_first message.Word (a ∷ []) enough = refl
value_of_first message.Word (a ∷ b ∷ []) enough = refl
value_of_first message.Word (a ∷ b ∷ c ∷ []) enough = refl
value_of_first message.Word (a ∷ b ∷ c ∷ d ∷ list) enough = refl

-- a message of this number of bytes by a channel of this number
abbrev pub Listens : ℕ → ℕ → (List ℕ → List ℕ) → Trace
Listens c count store_with t e =
    (bytes : List ℕ) × (length bytes ≡ count) × AreBytes bytes × IsMessage (Heard c bytes) (store_with bytes) t e

-- an input
hears : (c count : ℕ) (store_with : List ℕ → List ℕ) (at : Situation) (enough : Bool) → AreBytes at.coming
    → nat_le count (length at.coming) ≡ enough
    → Goes (Listens c count store_with) at.talk
    (if enough then Ended (record (heard c count at) {
      store = store_with
          (take count at.coming);
    }) else Awaits at.talk)
hears c count store_with at true bytes is =
    let first = take count at.coming in (
      Heard c first ∷ [],
      refl,
      (first, length_first count at.coming is, first_are_bytes count at.coming bytes, (refl, refl)),
      rest_are_bytes count at.coming bytes,
    )
hears c count store_with at false bytes is =
    ([], nothing_said at.talk, (zeros count, length_zeros count, zeros_are_bytes count, inl refl))

hears_value : (c v : ℕ) (kind : MessageKind) (at : Situation) (enough : Bool) → AreBytes at.coming
    → nat_le (bytes_in kind) (length at.coming) ≡ enough
    → Goes (Listens c (bytes_in kind) (λ bytes. slice_set at.store v (value_heard kind bytes))) at.talk
    (if enough then Ended (assigned v (value_heard kind at.coming) (heard c (bytes_in kind) at)) else Awaits at.talk)
hears_value c v kind at true bytes is =
    subst (λ x. Goes (Listens c (bytes_in kind) (λ bytes. slice_set at.store v (value_heard kind bytes))) at.talk
    (Ended (assigned v x (heard c (bytes_in kind) at))))
    (value_of_first kind at.coming is)
    (hears c (bytes_in kind) (λ bytes. slice_set at.store v (value_heard kind bytes)) at true bytes is)
hears_value c v kind at false bytes is =
    hears c (bytes_in kind) (λ bytes. slice_set at.store v (value_heard kind bytes)) at false bytes is

-- one after the other
joined : (first second : Traces) (store middle : List ℕ) (before between s : List Exchange) (course : Course)
    → between ≡ before ++ s → first store s (Complete middle) → Goes (second middle) between course
    → Goes (Consecutive first second store) before course
joined first second store middle before between s (Ended at) is run goes = (
  s ++ goes.0,
  goes.1 ∙ ap (λ list. list ++ goes.0) is ∙ append_assoc before s goes.0,
  inr (s, goes.0, middle, refl, run, goes.2),
  goes.3,
)
joined first second store middle before between s (Erred talk) is run goes = (
  s ++ goes.0,
  goes.1 ∙ ap (λ list. list ++ goes.0) is ∙ append_assoc before s goes.0,
  inr (s, goes.0, middle, refl, run, goes.2),
)
joined first second store middle before between s (Awaits talk) is run goes = (
  s ++ goes.0,
  goes.1 ∙ ap (λ list. list ++ goes.0) is ∙ append_assoc before s goes.0,
  inr (s, goes.0, middle, refl, run, goes.2),
)
joined first second store middle before between s (Unfinished talk) is run goes = (
  s ++ goes.0,
  goes.1 ∙ ap (λ list. list ++ goes.0) is ∙ append_assoc before s goes.0,
  inr (s, goes.0, middle, refl, run, goes.2),
)

goes_on : (first second : Traces) (store : List ℕ) (before : List Exchange) (course : Course) (next : Situation
    → Course)
    → Goes (first store) before course
    → ((end : Situation) → AreBytes end.coming → Goes (second end.store) end.talk (next end))
    → Goes (Consecutive first second store) before (then_do course next)
goes_on first second store before (Ended end) next one two =
    joined first second store end.store before end.talk one.0 (next end) one.1 one.2 (two end one.3)
goes_on first second store before (Erred talk) next one two = (one.0, one.1, inl (tt, one.2))
goes_on first second store before (Awaits talk) next one two = (one.0, one.1, inl (tt, one.2))
goes_on first second store before (Unfinished talk) next one two = (one.0, one.1, inl (tt, one.2))

-- a number isn't 0
pub at_least_one : (x : ℕ) → (x == 0) ≡ false → 1 ≤ x
at_least_one x is = grind (arith, nat_tests)

-- a number is 0
pub is_none : (x : ℕ) → (x == 0) ≡ true → x ≡ 0
is_none x is = grind (arith, nat_tests)

-- one of two ways
either : (x : ℕ) (b : Bool) (none some : Trace) (before : List Exchange) (ends goes : Course) → (x == 0) ≡ b
    → Goes none before ends → Goes some before goes
    → Goes (λ t e. ((x ≡ 0) × none t e) ⊎ ((1 ≤ x) × some t e)) before (if b then ends else goes)
either x true none some before ends goes is one two =
    through none (λ t e. ((x ≡ 0) × none t e) ⊎ ((1 ≤ x) × some t e)) before ends (λ t e run. inl
    (is_none x is, run)) one
either x false none some before ends goes is one two =
    through some (λ t e. ((x ≡ 0) × none t e) ⊎ ((1 ≤ x) × some t e)) before goes
    (λ t e run. inr (at_least_one x is, run)) two

-- an end with a store
ends_at : (at : Situation) (store : List ℕ) → AreBytes at.coming → Goes (IsEndAt store) at.talk (Ended
    (record at { store = store }))
ends_at at store bytes = ([], nothing_said at.talk, (refl, refl), bytes)

-- loops
pub turns_go : (test : List ℕ → Option ℕ) (body : Traces) (does_body : Situation → Course)
    → ((at : Situation) → AreBytes at.coming → Goes (body at.store) at.talk (does_body at))
    → (n : ℕ) (at : Situation) → AreBytes at.coming
    → Goes (Turns n test body at.store) at.talk (turns n (λ now. test now.store) does_body at)
turns_go test body does_body goes zero at bytes = ([], nothing_said at.talk, (refl, refl))
turns_go test body does_body goes (suc n) at bytes =
    by_value (test at.store)
    (λ x t e. ((x ≡ 0) × IsEndAt at.store t e) ⊎ ((1 ≤ x) × Consecutive body (Turns n test body) at.store t e)) at.talk
    (λ x. if x == 0 then Ended at else then_do (does_body at) (turns n (λ now. test now.store) does_body))
    (λ x. either x (x == 0) (IsEndAt at.store) (Consecutive body (Turns n test body) at.store) at.talk (Ended at)
    (then_do (does_body at) (turns n (λ now. test now.store) does_body)) refl (ends_at at at.store bytes)
    (goes_on body (Turns n test body) at.store at.talk (does_body at) (turns n (λ now. test now.store) does_body)
    (goes at bytes) (turns_go test body does_body goes n)))

-- what comes after a turn of a loop with an index
abbrev pub NextRound : ℕ → ℕ → Traces → Traces
NextRound n v body middle u f =
    let last = store_after_turn v middle in
    ((int_lt (pos 1) (signed (slice_index middle (v + 1))) ≡ false) × IsEndAt last u f)
    ⊎ ((int_lt (pos 1) (signed (slice_index middle (v + 1))) ≡ true)
    × IndexTurns n v body (slice_set last v (slice_index middle v ⊕ 1)) u f)

-- what comes after a turn of a loop with an index
pub next_round : (n v : ℕ) (body : Traces) (does_body : Situation → Course) (end : Situation) (more : Bool)
    → AreBytes end.coming → int_lt (pos 1) (signed (turns_left v end)) ≡ more
    → ((at : Situation) → AreBytes at.coming → Goes (IndexTurns n v body at.store) at.talk (rounds n v does_body at))
    → Goes (NextRound n v body end.store) end.talk
    (if more
    then rounds n v does_body (assigned v (slice_index end.store v ⊕ 1) (turn_over v end))
    else Ended (turn_over v end))
next_round n v body does_body end true bytes is goes =
    let next = assigned v (slice_index end.store v ⊕ 1) (turn_over v end) in
    through (IndexTurns n v body next.store) (NextRound n v body end.store) end.talk (rounds n v does_body next)
    (λ t e run. inr (is, run)) (goes next bytes)
next_round n v body does_body end false bytes is goes =
    ([], nothing_said end.talk, inl (is, (refl, refl)), bytes)

-- all its turns
pub rounds_go : (v : ℕ) (body : Traces) (does_body : Situation → Course)
    → ((at : Situation) → AreBytes at.coming → Goes (body at.store) at.talk (does_body at))
    → (n : ℕ) (at : Situation) → AreBytes at.coming
    → Goes (IndexTurns n v body at.store) at.talk (rounds n v does_body at)
rounds_go v body does_body goes zero at bytes = ([], nothing_said at.talk, (refl, refl))
rounds_go v body does_body goes (suc n) at bytes =
    goes_on body (NextRound n v body) at.store at.talk (does_body at)
    (λ end. if int_lt (pos 1) (signed (turns_left v end))
    then rounds n v does_body (assigned v (slice_index end.store v ⊕ 1) (turn_over v end))
    else Ended (turn_over v end))
    (goes at bytes)
    (λ end rest. next_round n v body does_body end (int_lt (pos 1) (signed (turns_left v end))) rest refl
    (rounds_go v body does_body goes n))

-- how often a loop with an index is to turn
abbrev pub Counted : ℕ → ℕ → Traces → List ℕ → ℕ → Trace
Counted n v body begun k t e =
    ((2 ^ 31 ≤ k) × IsErrorAt t e)
    ⊎ ((k ≡ 0) × IsEndAt (slice_set begun (v + 1) k) t e)
    ⊎ ((1 ≤ k) × (k < 2 ^ 31) × IndexTurns n v body (slice_set begun (v + 1) k) t e)

-- what the loop does then
abbrev pub repeated : ℕ → ℕ → (Situation → Course) → Situation → ℕ → Course
repeated n v body at k =
    if nat_le (2 ^ 31) k
    then Erred at.talk
    else (let set = assigned (v + 1) k at in if k == 0 then Ended set else rounds n v body set)

-- a number of turns that is negative as an INT
pub too_many : (k : ℕ) → nat_le (2 ^ 31) k ≡ true → 2 ^ 31 ≤ k
too_many k is = grind (arith, nat_tests)

-- one that isn't
pub not_too_many : (k : ℕ) → nat_le (2 ^ 31) k ≡ false → k < 2 ^ 31
not_too_many k is = grind (arith, nat_tests)

counted : (n v : ℕ) (body : Traces) (does_body : Situation → Course) (at : Situation) (k : ℕ) (many none : Bool)
    → AreBytes at.coming → nat_le (2 ^ 31) k ≡ many → (k == 0) ≡ none
    → ((now : Situation) → AreBytes now.coming → Goes (IndexTurns n v body now.store) now.talk
    (rounds n v does_body now))
    → Goes (Counted n v body at.store k) at.talk
    (if many
    then Erred at.talk
    else (let set = assigned (v + 1) k at in if none then Ended set else rounds n v does_body set))
counted n v body does_body at k true none bytes many is goes =
    ([], nothing_said at.talk, inl (too_many k many, refl))
counted n v body does_body at k false true bytes many is goes =
    ([], nothing_said at.talk, inr (inl (is_none k is, (refl, refl))), bytes)
counted n v body does_body at k false false bytes many is goes =
    let set = assigned (v + 1) k at in
    through (IndexTurns n v body set.store) (Counted n v body at.store k) at.talk (rounds n v does_body set)
    (λ t e run. inr (inr (at_least_one k is, not_too_many k many, run))) (goes set bytes)

-- a sequential process
pub goes : (p : CoreProcess) → IsSequential p → (n : ℕ) (at : Situation) → AreBytes at.coming
    → Goes (Runs n p at.store) at.talk (does n p at)
goes Skip sequential n at bytes = ends_at at at.store bytes
goes Stop sequential n at bytes = ([], nothing_said at.talk, refl)
goes (Line' place p a) sequential n at bytes = goes a sequential n at bytes
goes (Assign v e) sequential n at bytes =
    by_value (value e at.store) (λ x. IsEndAt (slice_set at.store v x)) at.talk (λ x. Ended (assigned v x at))
    (λ x. ends_at at (slice_set at.store v x) bytes)
goes (AssignElement array i e) sequential n at bytes =
    by_value (value e at.store)
    (λ x t f. WithElement array i at.store t f (λ k. IsEndAt (with_element array.kind array.first at.store k x) t f))
    at.talk
    (λ x. value_then (value i at.store) at.talk
    (λ k. if nat_lt k array.length
    then Ended (record at { store = with_element array.kind array.first at.store k x })
    else Erred at.talk))
    (λ x. by_element array (value i at.store) (λ k. IsEndAt (with_element array.kind array.first at.store k x)) at.talk
    (λ k. Ended (record at { store = with_element array.kind array.first at.store k x }))
    (λ k. ends_at at (with_element array.kind array.first at.store k x) bytes))
goes (Copy to from) sequential n at bytes = ([], nothing_said at.talk, (refl, refl), bytes)
goes (Input (Link c) kind v) sequential n at bytes =
    hears_value c v kind at (nat_le (bytes_in kind) (length at.coming)) bytes refl
goes (InputElement (Link c) array i) sequential n at bytes =
    let size = bytes_of_element array.kind in
    by_element array (value i at.store)
    (λ k. Listens c size (with_bytes_in at.store (4 * array.first + k * size))) at.talk
    (λ k. if nat_le size (length at.coming)
    then Ended (record (heard c size at) {
      store = with_bytes_in at.store (4 * array.first + k * size) (take size at.coming);
    })
    else Awaits at.talk)
    (λ k. hears c size (with_bytes_in at.store (4 * array.first + k * size)) at (nat_le size (length at.coming)) bytes
    refl)
goes (InputArray (Link c) array) sequential n at bytes =
    hears c (array_size array) (with_bytes_in at.store (4 * array.first)) at
    (nat_le (array_size array) (length at.coming)) bytes refl
goes (OutputArray (Link c) array) sequential n at bytes = (_, refl, (refl, refl), bytes)
goes (Output (Link c) kind e) sequential n at bytes =
    by_value (value e at.store) (λ x. IsMessage (Said c (bytes_said kind x)) at.store) at.talk
    (λ x. Ended (record at { talk = at.talk ++ Said c (bytes_said kind x) ∷ [] }))
    (λ x. (Said c (bytes_said kind x) ∷ [], refl, (refl, refl), bytes))
goes (Sequence' p a q b) sequential n at bytes =
    goes_on (Runs n a) (Runs n b) at.store at.talk (does n a at) (does n b) (goes a sequential.0 n at bytes)
    (goes b sequential.1 n)
goes (If' e p a q b) sequential n at bytes =
    by_value (value e at.store) (λ x t f. ((x ≡ 0) × Runs n b at.store t f) ⊎ ((1 ≤ x)
    × Runs n a at.store t f)) at.talk
    (λ x. if x == 0 then does n b at else does n a at)
    (λ x. either x (x == 0) (Runs n b at.store) (Runs n a at.store) at.talk (does n b at) (does n a at) refl
    (goes b sequential.1 n at bytes) (goes a sequential.0 n at bytes))
goes (While' e p a) sequential n at bytes = turns_go (value e) (Runs n a) (does n a) (goes a sequential n) n at bytes
goes (Repeat' v base count p a) sequential n at bytes =
    by_value (value base at.store)
    (λ x t f. let begun = slice_set at.store v x in
    WithValue (value count begun) t f (λ k. Counted n v (Runs n a) begun k t f))
    at.talk
    (λ x. let begun = assigned v x at in
    value_then (value count begun.store) begun.talk (λ k. repeated n v (does n a) begun k))
    (λ x. let begun = assigned v x at in
    by_value (value count begun.store) (Counted n v (Runs n a) begun.store) begun.talk
    (repeated n v (does n a) begun)
    (λ k. counted n v (Runs n a) (does n a) begun k (nat_le (2 ^ 31) k) (k == 0) bytes refl refl
    (rounds_go v (Runs n a) (does n a) (goes a sequential n) n)))
goes (Input c kind v) sequential n at bytes = absurd sequential
goes (InputElement c array i) sequential n at bytes = absurd sequential
goes (InputArray c array) sequential n at bytes = absurd sequential
goes (Output c kind e) sequential n at bytes = absurd sequential
goes (OutputArray c array) sequential n at bytes = absurd sequential
goes (Channels v count) sequential n at bytes = absurd sequential
goes (Parallel' p a q b) sequential n at bytes = absurd sequential
goes (Choose' g p a q b) sequential n at bytes = absurd sequential

-- the law
pub traced : SequentialRuns
traced p sequential n at bytes =
    only_traced (Runs n p at.store) at.talk (does n p at) (goes p sequential n at bytes)

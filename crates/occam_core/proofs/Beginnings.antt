-- Each beginning of a trace is a trace.
use Rattle.std.proofs.Common.{◌≡◌, ℕ, zero, suc, ◌+◌, ◌*◌, ◌^◌, ◌<◌, ◌≤◌, inl, inr, List, [], ◌∷◌, ◌++◌, length, drop, Option, Some, None, refl, sym, ap, ◌∙◌, subst}
use Rattle.std.specs.Prelude.{◌⊎◌, slice_set, slice_index}
use Rattle.node_memory.specs.Words.{◌⊕◌}
use Rattle.occam_core.specs.declared.channel.CoreChannel.{CoreChannel}
use Rattle.occam_core.specs.declared.channel.CoreGuard.{CoreGuard}
use Rattle.occam_core.specs.declared.process.CoreProcess.{CoreProcess}
use Rattle.occam_core.specs.declared.process.CoreProcess.TheVariants.{Skip, Stop, Line', Assign, AssignElement, Copy, Channels, Input, InputElement, InputArray, Output, OutputArray, Sequence', Parallel', Choose', If', While', Repeat'}
use Rattle.occam_core.specs.Values.{of_one, value}
use Rattle.occam_core.specs.Processes.{Exchange, Said, Heard, with_element, with_bytes_in, bytes_of_store, bytes_of_element, array_size, bytes_in, value_heard, bytes_said}
use Rattle.occam_core.specs.Traces.{Traces, TraceOutcome, Complete, Broken, Partial, IsEndAt, IsErrorAt, IsMessage, IsCutAt, WithValue, WithElement, Hears, Says, channel_number, element_number, Consecutive, Turns, IndexTurns, store_after_turn, Merges, both_end, first_goes, second_goes, first_says, second_says, SideBySide, guard_value, open_guards, LetsOthers, Runs}
use Rattle.occam_core.specs.Laws.{BeginningsAreTraces}
use Rattle.occam_core.proofs.Tracing.{Trace, NextRound, Counted}

-- it has each beginning of what it has
abbrev Begins : Trace → Type 0
Begins trace = (t rest : List Exchange) (e : TraceOutcome) → trace (t ++ rest) e → trace t Partial

-- nothing is in it
abbrev IsNothing : List Exchange → Type 0
IsNothing [] = Unit {0}
IsNothing (x ∷ list) = ⊥

-- what comes before nothing
nothing : (t rest : List Exchange) → t ++ rest ≡ [] → t ≡ []
nothing [] rest is = refl
nothing (x ∷ t) rest is = absurd (subst IsNothing (sym is) tt)

begins_end : (last : List ℕ) → Begins (IsEndAt last)
begins_end last t rest (Complete store) run = nothing t rest run.0
begins_end last t rest Broken run = absurd run
begins_end last t rest Partial run = nothing t rest run

begins_error : Begins IsErrorAt
begins_error t rest (Complete store) run = absurd run
begins_error t rest Broken run = nothing t rest run
begins_error t rest Partial run = nothing t rest run

begins_cut : Begins IsCutAt
begins_cut t rest e run = (nothing t rest run.0, refl)

-- before one message, or after it
before_one : (x : Exchange) (t rest : List Exchange) → t ++ rest ≡ x ∷ [] → (t ≡ []) ⊎ (t ≡ x ∷ [])
before_one x [] rest is = inl refl
before_one x (other ∷ t) rest is =
    let none = ap (drop 1) is in
    inr (ap (λ list. other ∷ list) (nothing t rest none ∙ sym none) ∙ is)

begins_message : (x : Exchange) (last : List ℕ) → Begins (IsMessage x last)
begins_message x last t rest (Complete store) run = before_one x t rest run.0
begins_message x last t rest Broken run = absurd run
begins_message x last t rest Partial (inl run) = inl (nothing t rest run)
begins_message x last t rest Partial (inr run) = before_one x t rest run

begins_value : (given : Option ℕ) (trace : ℕ → Trace) → ((x : ℕ) → Begins (trace x))
    → Begins (λ t e. WithValue given t e (λ x. trace x t e))
begins_value None trace each t rest e run = begins_error t rest e run
begins_value (Some x) trace each t rest e run = each x t rest e run

begins_hears : (c : CoreChannel) (count : ℕ) (store_with : List ℕ → List ℕ) (store : List ℕ)
    → Begins (Hears c count store_with store)
begins_hears c count store_with store =
    begins_value (channel_number c store)
    (λ n t e. (bytes : List ℕ) × (length bytes ≡ count) × ((i : ℕ) → slice_index bytes i < 2 ^ 8)
    × IsMessage (Heard n bytes) (store_with bytes) t e)
    (λ n t rest e run. (run.0, run.1, run.2, begins_message (Heard n run.0) (store_with run.0) t rest e run.3))

begins_says : (c : CoreChannel) (bytes store : List ℕ) → Begins (Says c bytes store)
begins_says c bytes store =
    begins_value (channel_number c store) (λ n. IsMessage (Said n bytes) store) (λ n. begins_message
    (Said n bytes) store)

-- the first of a list
abbrev first_or : Exchange → List Exchange → Exchange
first_or found [] = found
first_or found (x ∷ list) = x

-- one of two beginnings of a list begins with the other
abbrev Divided : (t rest s u : List Exchange) → Type 0
Divided t rest s u =
    ((r : List Exchange) × (s ≡ t ++ r)) ⊎ ((r : List Exchange) × (t ≡ s ++ r) × (u ≡ r ++ rest))

divided_on : (other another : Exchange) (t rest s u : List Exchange) → other ≡ another → Divided t rest s u
    → Divided (other ∷ t) rest (another ∷ s) u
divided_on other another t rest s u same (inl found) = inl (
  found.0,
  ap (λ list. another ∷ list) found.1 ∙ ap
      (λ x. x ∷ t ++ found.0) (sym same),
)
divided_on other another t rest s u same (inr found) = inr (
  found.0,
  ap (λ list. other ∷ list) found.1 ∙ ap
      (λ x. x ∷ s ++ found.0) same,
  found.2,
)

divided : (t rest s u : List Exchange) → t ++ rest ≡ s ++ u → Divided t rest s u
divided [] rest s u is = inl (s, refl)
divided (other ∷ t) rest [] u is = inr (other ∷ t, refl, sym is)
divided (other ∷ t) rest (another ∷ s) u is =
    divided_on other another t rest s u (ap (first_or other) is) (divided t rest s u (ap (drop 1) is))

begins_divided : (first second : Traces) (store middle : List ℕ) (t rest s u : List Exchange) (e : TraceOutcome)
    → Begins (first store) → Begins (second middle) → first store s (Complete middle) → second middle u e
    → Divided t rest s u
    → Consecutive first second store t Partial
begins_divided first second store middle t rest s u e one two run later (inl found) =
    inl (tt, one t found.0 (Complete middle) (subst (λ list. first store list (Complete middle)) found.1 run))
begins_divided first second store middle t rest s u e one two run later (inr found) =
    inr (s, found.0, middle, found.1, run, two found.0 rest e (subst (λ list. second middle list e) found.2 later))

begins_goes_on : (first second : Traces) (store : List ℕ) → Begins (first store) → ((middle : List ℕ) → Begins
    (second middle))
    → Begins (Consecutive first second store)
begins_goes_on first second store one two t rest e (inl run) = inl (tt, one t rest e run.1)
begins_goes_on first second store one two t rest e (inr run) =
    begins_divided first second store run.2 t rest run.0 run.1 e one (two run.2) run.4 run.5
    (divided t rest run.0 run.1 run.3)

begins_either : (P Q : Type 0) (one two : Trace) → Begins one → Begins two
    → Begins (λ t e. (P × one t e) ⊎ (Q × two t e))
begins_either P Q one two first second t rest e (inl run) = inl (run.0, first t rest e run.1)
begins_either P Q one two first second t rest e (inr run) = inr (run.0, second t rest e run.1)

module _ (body : Traces) (each : (store : List ℕ) → Begins (body store)) where
  begins_turns : (test : List ℕ → Option ℕ) (n : ℕ) (store : List ℕ) → Begins (Turns n test body store)
  begins_turns test zero store = begins_cut
  begins_turns test (suc n) store =
      begins_value (test store) (λ x t e. ((x ≡ 0) × IsEndAt store t e) ⊎ ((1 ≤ x) × Consecutive body
      (Turns n test body) store t e))
      (λ x. begins_either (x ≡ 0) (1 ≤ x) (IsEndAt store) (Consecutive body (Turns n test body) store)
      (begins_end store)
      (begins_goes_on body (Turns n test body) store (each store) (begins_turns test n)))

  begins_next : (n v : ℕ) (middle : List ℕ) → ((store : List ℕ) → Begins (IndexTurns n v body store)) → Begins
      (NextRound n v body middle)
  begins_next n v middle rounds t rest e (inl run) = inl (run.0, begins_end (store_after_turn v middle) t rest e run.1)
  begins_next n v middle rounds t rest e (inr run) =
      inr (run.0, rounds (slice_set (store_after_turn v middle) v (slice_index middle v ⊕ 1)) t rest e run.1)

  begins_rounds : (v n : ℕ) (store : List ℕ) → Begins (IndexTurns n v body store)
  begins_rounds v zero store = begins_cut
  begins_rounds v (suc n) store =
      begins_goes_on body (NextRound n v body) store (each store) (λ middle. begins_next n v middle
      (begins_rounds v n))

  begins_counted : (n v : ℕ) (begun : List ℕ) (k : ℕ) → Begins (Counted n v body begun k)
  begins_counted n v begun k t rest e (inl run) = inl (run.0, begins_error t rest e run.1)
  begins_counted n v begun k t rest e (inr (inl run)) =
      inr (inl (run.0, begins_end (slice_set begun (v + 1) k) t rest e run.1))
  begins_counted n v begun k t rest e (inr (inr run)) =
      inr (inr (run.0, run.1, begins_rounds v n (slice_set begun (v + 1) k) t rest e run.2))

-- beginnings of two talks that are a beginning of both together
record BothBegin (a b t : List Exchange) : Type 0 where
  first : List Exchange
  first_rest : List Exchange
  second : List Exchange
  second_rest : List Exchange
  first_is : a ≡ first ++ first_rest
  second_is : b ≡ second ++ second_rest
  together : Merges first second t

none_begins : (a b t : List Exchange) → t ≡ [] → BothBegin a b t
none_begins a b t none =
    record {
      first = [];
      first_rest = a;
      second = [];
      second_rest = b;
      first_is = refl;
      second_is = refl;
      together = subst (Merges [] []) (sym none) both_end;
    }

first_on : (x other : Exchange) (a b t : List Exchange) → x ≡ other → BothBegin a b t → BothBegin (x ∷ a) b (other ∷ t)
first_on x other a b t same begun =
    record {
      first = x ∷ begun.first;
      first_rest = begun.first_rest;
      second = begun.second;
      second_rest = begun.second_rest;
      first_is = ap (λ list. x ∷ list) begun.first_is;
      second_is = begun.second_is;
      together =
          subst (λ another. Merges (x ∷ begun.first) begun.second (another ∷ t)) same
          (first_goes x begun.first begun.second t begun.together);
    }

second_on : (x other : Exchange) (a b t : List Exchange) → x ≡ other → BothBegin a b t → BothBegin a (x ∷ b)
    (other ∷ t)
second_on x other a b t same begun =
    record {
      first = begun.first;
      first_rest = begun.first_rest;
      second = x ∷ begun.second;
      second_rest = begun.second_rest;
      first_is = begun.first_is;
      second_is = ap (λ list. x ∷ list) begun.second_is;
      together =
          subst (λ another. Merges begun.first (x ∷ begun.second) (another ∷ t)) same
          (second_goes x begun.first begun.second t begun.together);
    }

both_on : (x other : Exchange) (a b t : List Exchange)
    → ((c found : List Exchange) → Merges c found t → Merges (x ∷ c) (other ∷ found) t) → BothBegin a b t
    → BothBegin (x ∷ a) (other ∷ b) t
both_on x other a b t joins begun =
    record {
      first = x ∷ begun.first;
      first_rest = begun.first_rest;
      second = other ∷ begun.second;
      second_rest = begun.second_rest;
      first_is = ap (λ list. x ∷ list) begun.first_is;
      second_is = ap (λ list. other ∷ list) begun.second_is;
      together = joins begun.first begun.second begun.together;
    }

both_begin : (a b list t rest : List Exchange) → Merges a b list → list ≡ t ++ rest → BothBegin a b t
both_begin _ _ _ t rest both_end is = none_begins [] [] t (nothing t rest (sym is))
both_begin _ _ _ [] rest (first_goes x a b list together) is = none_begins (x ∷ a) b [] refl
both_begin _ _ _ (other ∷ t) rest (first_goes x a b list together) is =
    first_on x other a b t (ap (first_or x) is) (both_begin a b list t rest together (ap (drop 1) is))
both_begin _ _ _ [] rest (second_goes x a b list together) is = none_begins a (x ∷ b) [] refl
both_begin _ _ _ (other ∷ t) rest (second_goes x a b list together) is =
    second_on x other a b t (ap (first_or x) is) (both_begin a b list t rest together (ap (drop 1) is))
both_begin _ _ _ t rest (first_says n bytes a b list inside together) is =
    both_on (Said n bytes) (Heard n bytes) a b t (λ c found. first_says n bytes c found t inside)
    (both_begin a b list t rest together is)
both_begin _ _ _ t rest (second_says n bytes a b list inside together) is =
    both_on (Heard n bytes) (Said n bytes) a b t (λ c found. second_says n bytes c found t inside)
    (both_begin a b list t rest together is)

begins_side_by_side : (first second : Traces) (store : List ℕ) → Begins (first store) → Begins (second store)
    → Begins (SideBySide first second store)
begins_side_by_side first second store one two t rest e run =
    let begun = both_begin run.0 run.1 (t ++ rest) t rest run.6 refl in (
      begun.first,
      begun.second,
      Partial,
      Partial,
      one begun.first begun.first_rest run.2 (subst (λ list. first store list run.2) begun.first_is run.4),
      two begun.second begun.second_rest run.3 (subst (λ list. second store list run.3) begun.second_is run.5),
      begun.together,
      tt,
    )

begins_chosen : (x n : ℕ) (g : CoreGuard) (first second : Traces) (store : List ℕ) → Begins (first store)
    → Begins (second store)
    → Begins (λ t e. ((x ≡ 0) × (n ≡ 0) × IsErrorAt t e) ⊎ ((1 ≤ x) × first store t e)
    ⊎ ((1 ≤ n) × LetsOthers g x × second store t e))
begins_chosen x n g first second store one two t rest e (inl run) = inl (run.0, run.1, begins_error t rest e run.2)
begins_chosen x n g first second store one two t rest e (inr (inl run)) = inr (inl (run.0, one t rest e run.1))
begins_chosen x n g first second store one two t rest e (inr (inr run)) =
    inr (inr (run.0, run.1, two t rest e run.2))

-- a process
begun : (p : CoreProcess) (n : ℕ) (store : List ℕ) → Begins (Runs n p store)
begun Skip n store = begins_end store
begun Stop n store = begins_error
begun (Line' place p a) n store = begun a n store
begun (Assign v x) n store =
    begins_value (value x store) (λ w. IsEndAt (slice_set store v w)) (λ w. begins_end (slice_set store v w))
begun (AssignElement array i x) n store =
    begins_value (value x store)
    (λ w t e. WithElement array i store t e (λ k. IsEndAt (with_element array.kind array.first store k w) t e))
    (λ w. begins_value (of_one (element_number array) (value i store))
    (λ k. IsEndAt (with_element array.kind array.first store k w))
    (λ k. begins_end (with_element array.kind array.first store k w)))
begun (Copy to from) n store =
    begins_end (with_bytes_in store (4 * to.first) (bytes_of_store (array_size to) store (4 * from.first)))
begun (Channels v count) n store = begins_end store
begun (Input c kind v) n store = begins_hears c (bytes_in kind) (λ bytes. slice_set store v
    (value_heard kind bytes)) store
begun (InputElement c array i) n store =
    let size = bytes_of_element array.kind in
    begins_value (of_one (element_number array) (value i store))
    (λ k. Hears c size (with_bytes_in store (4 * array.first + k * size)) store)
    (λ k. begins_hears c size (with_bytes_in store (4 * array.first + k * size)) store)
begun (InputArray c array) n store = begins_hears c (array_size array) (with_bytes_in store (4 * array.first)) store
begun (Output c kind x) n store =
    begins_value (value x store) (λ w. Says c (bytes_said kind w) store) (λ w. begins_says c (bytes_said kind w) store)
begun (OutputArray c array) n store = begins_says c (bytes_of_store (array_size array) store (4 * array.first)) store
begun (Sequence' p a q b) n store = begins_goes_on (Runs n a) (Runs n b) store (begun a n store) (begun b n)
begun (Parallel' p a q b) n store = begins_side_by_side (Runs n a) (Runs n b) store (begun a n store) (begun b n store)
begun (Choose' g p a q b) n store =
    begins_value (guard_value g store)
    (λ x t e. WithValue (open_guards b store) t e
    (λ k. ((x ≡ 0) × (k ≡ 0) × IsErrorAt t e) ⊎ ((1 ≤ x) × Runs n a store t e)
    ⊎ ((1 ≤ k) × LetsOthers g x × Runs n b store t e)))
    (λ x. begins_value (open_guards b store)
    (λ k t e. ((x ≡ 0) × (k ≡ 0) × IsErrorAt t e) ⊎ ((1 ≤ x) × Runs n a store t e)
    ⊎ ((1 ≤ k) × LetsOthers g x × Runs n b store t e))
    (λ k. begins_chosen x k g (Runs n a) (Runs n b) store (begun a n store) (begun b n store)))
begun (If' c p a q b) n store =
    begins_value (value c store) (λ x t e. ((x ≡ 0) × Runs n b store t e) ⊎ ((1 ≤ x) × Runs n a store t e))
    (λ x. begins_either (x ≡ 0) (1 ≤ x) (Runs n b store) (Runs n a store) (begun b n store) (begun a n store))
begun (While' c p a) n store = begins_turns (Runs n a) (begun a n) (value c) n store
begun (Repeat' v base count p a) n store =
    begins_value (value base store)
    (λ x t e. WithValue (value count (slice_set store v x)) t e (λ k. Counted n v (Runs n a)
    (slice_set store v x) k t e))
    (λ x. begins_value (value count (slice_set store v x)) (Counted n v (Runs n a) (slice_set store v x))
    (begins_counted (Runs n a) (begun a n) n v (slice_set store v x)))

-- the law
pub begins : BeginningsAreTraces
begins p n store t rest e run = begun p n store t rest e run

-- Each process is under way before its first message; what the sides of a PAR do, it does; a closed guard isn't taken.
use Rattle.std.proofs.Common.{◌≡◌, ℕ, zero, suc, ◌+◌, ◌*◌, ◌^◌, ◌<◌, ◌≤◌, inl, inr, List, [], ◌∷◌, ◌++◌, length, Option, Some, None, refl, subst, arith, Bool, true, false, nat_le}
use Rattle.std.specs.Prelude.{◌==◌, ◌⊎◌, slice_set, slice_index}
use Rattle.std.proofs.lemmas.Bool.Decides.{nat_tests}
use Rattle.occam_core.specs.declared.channel.CoreChannel.{CoreChannel}
use Rattle.occam_core.specs.declared.channel.CoreGuard.{CoreGuard}
use Rattle.occam_core.specs.declared.channel.CoreGuard.TheVariants as guard
use Rattle.occam_core.specs.declared.process.CoreProcess.{CoreProcess}
use Rattle.occam_core.specs.declared.process.CoreProcess.TheVariants.{Skip, Stop, Line', Assign, AssignElement, Copy, Channels, Input, InputElement, InputArray, Output, OutputArray, Sequence', Parallel', Choose', If', While', Repeat'}
use Rattle.occam_core.specs.Values.{of_one, value}
use Rattle.occam_core.specs.Processes.{Exchange, Said, Heard, with_element, with_bytes_in, bytes_of_store, bytes_of_element, array_size, bytes_in, value_heard, bytes_said}
use Rattle.occam_core.specs.Traces.{Traces, TraceOutcome, Complete, Broken, Partial, IsEndAt, IsErrorAt, IsMessage, WithValue, WithElement, Hears, Says, channel_number, element_number, Consecutive, Turns, IndexTurns, Merges, both_end, first_goes, second_goes, SideBySide, guard_value, open_guards, LetsOthers, Chooses, Runs}
use Rattle.occam_core.specs.Laws.{ProcessesBegin, ParallelsRun, ClosedGuardsWait}
use Rattle.occam_core.proofs.Tracing.{Trace, Counted, zeros, length_zeros, zeros_are_bytes, too_many, not_too_many}

-- it is under way before anything is said or heard
abbrev Starts : Trace → Type 0
Starts trace = trace [] Partial

-- one at least
positive : (n : ℕ) → 1 ≤ suc n
positive n = omega arith

starts_value : (given : Option ℕ) (trace : ℕ → Trace) → ((x : ℕ) → Starts (trace x))
    → Starts (λ t e. WithValue given t e (λ x. trace x t e))
starts_value None trace each = refl
starts_value (Some x) trace each = each x

-- before a message that is heard
starts_hears : (c : CoreChannel) (count : ℕ) (store_with : List ℕ → List ℕ) (store : List ℕ)
    → Starts (Hears c count store_with store)
starts_hears c count store_with store =
    starts_value (channel_number c store)
    (λ n t e. (bytes : List ℕ) × (length bytes ≡ count) × ((i : ℕ) → slice_index bytes i < 2 ^ 8)
    × IsMessage (Heard n bytes) (store_with bytes) t e)
    (λ n. (zeros count, length_zeros count, zeros_are_bytes count, inl refl))

-- before a message that is said
starts_says : (c : CoreChannel) (bytes store : List ℕ) → Starts (Says c bytes store)
starts_says c bytes store =
    starts_value (channel_number c store) (λ n. IsMessage (Said n bytes) store) (λ n. inl refl)

module _ (body : Traces) (each : (store : List ℕ) → Starts (body store)) where
  -- before the first turn of a loop, or in it
  starts_turn : (n : ℕ) (test : List ℕ → Option ℕ) (store : List ℕ) (x : ℕ)
      → ((x ≡ 0) × IsEndAt store [] Partial) ⊎ ((1 ≤ x) × Consecutive body (Turns n test body) store [] Partial)
  starts_turn n test store zero = inl (refl, refl)
  starts_turn n test store (suc x) = inr (positive x, inl (tt, each store))

  starts_turns : (test : List ℕ → Option ℕ) (n : ℕ) (store : List ℕ) → Starts (Turns n test body store)
  starts_turns test zero store = (refl, refl)
  starts_turns test (suc n) store =
      starts_value (test store) (λ x t e. ((x ≡ 0) × IsEndAt store t e) ⊎ ((1 ≤ x) × Consecutive body
      (Turns n test body) store t e))
      (starts_turn n test store)

  starts_rounds : (v n : ℕ) (store : List ℕ) → Starts (IndexTurns n v body store)
  starts_rounds v zero store = (refl, refl)
  starts_rounds v (suc n) store = inl (tt, each store)

  starts_counted : (n v : ℕ) (begun : List ℕ) (k : ℕ) (many none : Bool) → nat_le (2 ^ 31) k ≡ many → (k == 0) ≡ none
      → Starts (Counted n v body begun k)
  starts_counted n v begun k true none many is = inl (too_many k many, refl)
  starts_counted n v begun k false true many is = inr (inl (grind (arith, nat_tests), refl))
  starts_counted n v begun k false false many is =
      inr (inr (grind (arith, nat_tests), not_too_many k many, starts_rounds v n (slice_set begun (v + 1) k)))

-- whichever guards of a choice are open
starts_chosen : (x n : ℕ) (g : CoreGuard) (first second : Traces) (store : List ℕ) → Starts (first store)
    → Starts (second store)
    → ((x ≡ 0) × (n ≡ 0) × IsErrorAt [] Partial) ⊎ ((1 ≤ x) × first store [] Partial)
    ⊎ ((1 ≤ n) × LetsOthers g x × second store [] Partial)
starts_chosen zero zero g first second store one two = inl (refl, refl, refl)
starts_chosen zero (suc n) (guard.Input e c) first second store one two = inr (inr (positive n, tt, two))
starts_chosen zero (suc n) (guard.Skip e) first second store one two = inr (inr (positive n, refl, two))
starts_chosen (suc x) n g first second store one two = inr (inl (positive x, one))

-- whether a value is 0 or not
starts_either : (x : ℕ) (none some : Trace) → Starts none → Starts some
    → ((x ≡ 0) × none [] Partial) ⊎ ((1 ≤ x) × some [] Partial)
starts_either zero none some one two = inl (refl, one)
starts_either (suc x) none some one two = inr (positive x, two)

-- a process
started : (p : CoreProcess) (n : ℕ) (store : List ℕ) → Starts (Runs n p store)
started Skip n store = refl
started Stop n store = refl
started (Line' place p a) n store = started a n store
started (Assign v x) n store =
    starts_value (value x store) (λ w. IsEndAt (slice_set store v w)) (λ w. refl)
started (AssignElement array i x) n store =
    starts_value (value x store)
    (λ w t e. WithElement array i store t e (λ k. IsEndAt (with_element array.kind array.first store k w) t e))
    (λ w. starts_value (of_one (element_number array) (value i store))
    (λ k. IsEndAt (with_element array.kind array.first store k w))
    (λ k. refl))
started (Copy to from) n store = refl
started (Channels v count) n store = refl
started (Input c kind v) n store =
    starts_hears c (bytes_in kind) (λ bytes. slice_set store v (value_heard kind bytes)) store
started (InputElement c array i) n store =
    let size = bytes_of_element array.kind in
    starts_value (of_one (element_number array) (value i store))
    (λ k. Hears c size (with_bytes_in store (4 * array.first + k * size)) store)
    (λ k. starts_hears c size (with_bytes_in store (4 * array.first + k * size)) store)
started (InputArray c array) n store = starts_hears c (array_size array) (with_bytes_in store (4 * array.first)) store
started (Output c kind x) n store =
    starts_value (value x store) (λ w. Says c (bytes_said kind w) store) (λ w. starts_says c (bytes_said kind w) store)
started (OutputArray c array) n store = starts_says c (bytes_of_store (array_size array) store (4 * array.first)) store
started (Sequence' p a q b) n store = inl (tt, started a n store)
started (Parallel' p a q b) n store = ([], [], Partial, Partial, started a n store, started b n store, both_end, tt)
started (Choose' g p a q b) n store =
    starts_value (guard_value g store)
    (λ x t e. WithValue (open_guards b store) t e
    (λ k. ((x ≡ 0) × (k ≡ 0) × IsErrorAt t e) ⊎ ((1 ≤ x) × Runs n a store t e)
    ⊎ ((1 ≤ k) × LetsOthers g x × Runs n b store t e)))
    (λ x. starts_value (open_guards b store)
    (λ k t e. ((x ≡ 0) × (k ≡ 0) × IsErrorAt t e) ⊎ ((1 ≤ x) × Runs n a store t e)
    ⊎ ((1 ≤ k) × LetsOthers g x × Runs n b store t e))
    (λ k. starts_chosen x k g (Runs n a) (Runs n b) store (started a n store) (started b n store)))
started (If' c p a q b) n store =
    starts_value (value c store) (λ x t e. ((x ≡ 0) × Runs n b store t e) ⊎ ((1 ≤ x) × Runs n a store t e))
    (λ x. starts_either x (Runs n b store) (Runs n a store) (started b n store) (started a n store))
started (While' c p a) n store = starts_turns (Runs n a) (started a n) (value c) n store
started (Repeat' v base count p a) n store =
    starts_value (value base store)
    (λ x t e. WithValue (value count (slice_set store v x)) t e (λ k. Counted n v (Runs n a)
    (slice_set store v x) k t e))
    (λ x. starts_value (value count (slice_set store v x)) (Counted n v (Runs n a) (slice_set store v x))
    (λ k. starts_counted (Runs n a) (started a n) n v (slice_set store v x) k (nat_le (2 ^ 31) k) (k == 0) refl refl))

-- the law
pub begun_silently : ProcessesBegin
begun_silently p n store = started p n store

-- one talk and then the other are both talks side by side
first_before : (s t : List Exchange) → Merges s t (s ++ t)
first_before [] [] = both_end
first_before [] (x ∷ t) = second_goes x [] t t (first_before [] t)
first_before (x ∷ s) t = first_goes x s t (s ++ t) (first_before s t)

second_before : (s t : List Exchange) → Merges s t (t ++ s)
second_before [] [] = both_end
second_before (x ∷ s) [] = first_goes x s [] s (second_before s [])
second_before s (x ∷ t) = second_goes x s t (t ++ s) (second_before s t)

-- a talk beside none
first_alone : (t : List Exchange) → Merges t [] t
first_alone [] = both_end
first_alone (x ∷ t) = first_goes x t [] t (first_alone t)

second_alone : (t : List Exchange) → Merges [] t t
second_alone [] = both_end
second_alone (x ∷ t) = second_goes x [] t t (second_alone t)

module _ (n : ℕ) (store : List ℕ) (a b : CoreProcess) where
  -- both have ended
  both_ended : (t : List Exchange) (last : List ℕ) → SideBySide (Runs n a) (Runs n b) store t (Complete last)
      → (s u : List Exchange) × (first second : List ℕ) × Runs n a store s (Complete first)
      × Runs n b store u (Complete second)
  both_ended t last run =
      let end = run.7 in (
        run.0,
        run.1,
        end.0,
        end.1,
        subst (λ outcome. Runs n a store run.0 outcome) end.2 run.4,
        subst (λ outcome. Runs n b store run.1 outcome) end.3 run.5,
      )

-- the law
pub run_together : ParallelsRun
run_together (Parallel' p a q b) n store =
    record {
      first_goes_first = λ s t x y one two. (s, t, x, y, one, two, first_before s t, tt);
      second_goes_first = λ s t x y one two. (s, t, x, y, one, two, second_before s t, tt);
      first_errs = λ t one. (t, [], Broken, Partial, one, started b n store, first_alone t, inl refl);
      second_errs = λ t two. ([], t, Partial, Broken, started a n store, two, second_alone t, inr refl);
      ends = both_ended n store a b;
    }
run_together Skip n store = tt
run_together Stop n store = tt
run_together (Line' place p a) n store = tt
run_together (Assign v x) n store = tt
run_together (AssignElement array i x) n store = tt
run_together (Copy to from) n store = tt
run_together (Channels v count) n store = tt
run_together (Input c kind v) n store = tt
run_together (InputElement c array i) n store = tt
run_together (InputArray c array) n store = tt
run_together (Output c kind x) n store = tt
run_together (OutputArray c array) n store = tt
run_together (Sequence' p a q b) n store = tt
run_together (Choose' g p a q b) n store = tt
run_together (If' c p a q b) n store = tt
run_together (While' c p a) n store = tt
run_together (Repeat' v base count p a) n store = tt

-- of a choice whose guard is closed
closed_choice : (others : Option ℕ) (g : CoreGuard) (first second : Traces) (store : List ℕ) (t : List Exchange)
    (e : TraceOutcome)
    → Chooses (Some 0) others g first second store t e → IsErrorAt t e ⊎ second store t e
closed_choice None g first second store t e run = inl run
closed_choice (Some n) g first second store t e (inl run) = inl run.2
closed_choice (Some n) g first second store t e (inr (inl run)) = absurd omega (arith, run.0)
closed_choice (Some n) g first second store t e (inr (inr run)) = inr run.2

-- the law
pub closed_passed : ClosedGuardsWait
closed_passed (Choose' g p a q b) n store t e =
    λ is run. closed_choice (open_guards b store) g (Runs n a) (Runs n b) store t e
    (subst (λ it. Chooses it (open_guards b store) g (Runs n a) (Runs n b) store t e) is run)
closed_passed Skip n store t e = tt
closed_passed Stop n store t e = tt
closed_passed (Line' place p a) n store t e = tt
closed_passed (Assign v x) n store t e = tt
closed_passed (AssignElement array i x) n store t e = tt
closed_passed (Copy to from) n store t e = tt
closed_passed (Channels v count) n store t e = tt
closed_passed (Input c kind v) n store t e = tt
closed_passed (InputElement c array i) n store t e = tt
closed_passed (InputArray c array) n store t e = tt
closed_passed (Output c kind x) n store t e = tt
closed_passed (OutputArray c array) n store t e = tt
closed_passed (Sequence' p a q b) n store t e = tt
closed_passed (Parallel' p a q b) n store t e = tt
closed_passed (If' c p a q b) n store t e = tt
closed_passed (While' c p a) n store t e = tt
closed_passed (Repeat' v base count p a) n store t e = tt

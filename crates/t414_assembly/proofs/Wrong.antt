-- The lines that are wrong, one after another: the contract of `first_faults`, and what `assemble_or_list` says of it.
use Rattle.std.proofs.Common.{ℕ, zero, suc, ◌≡◌, ◌<◌, ◌≤◌, ◌+◌, List, [], ◌∷◌, Option, Some, None, IfSome, All, length, drop}
use Rattle.std.proofs.Common.{slice_get, slice_index, slice_index_or, ◌++◌, map, sym, subst, ap, ◌∙◌, arith, rules}
use Rattle.std.proofs.Common.{take, refl, length-append, append-nil, true, false, ◌==◌, ◌⊎◌, inl, inr, ◌↔◌}
use Rattle.script_text.specs.Lines.{IsLine}
use Rattle.t414_assembly.specs.declared.faults.FaultList.{FaultList}
use Rattle.t414_assembly.specs.Faults.{HasLine, AreFaultsOf}
use Rattle.std.proofs.Math.Seq.{take-append_seam}
use Rattle.std.proofs.lemmas.List.{take_all}
use Rattle.std.proofs.lemmas.List.Elements.{All-nil, All-cons}
use Rattle.std.specs.List.Sorted.{IsStrictlyIncreasing}
use Rattle.script_text.specs.declared.numbered.NumberedLine.{NumberedLine}
use Rattle.t414_assembly.specs.declared.fault.Mismatch.{Mismatch}
use Rattle.t414_assembly.specs.declared.fault.FaultyLine.{FaultyLine}
use Rattle.t414_assembly.specs.Faults.{wrong_lines}

-- the number of a line that is wrong, before others
abbrev pub with_number : Option Mismatch → ℕ → List ℕ → List ℕ
with_number (Some _) number others = number ∷ others
with_number None number others = others

-- the wrong lines from one on are that line, if it is wrong, and those after it
next_wrong : (ms : List (Option Mismatch)) (ls : List NumberedLine) (i : ℕ) (line : NumberedLine)
    → slice_get ls i ≡ Some line
    → wrong_lines (drop i ms) (drop i ls)
    ≡ with_number (slice_index_or ms i None) line.number (wrong_lines (drop (suc i) ms) (drop (suc i) ls))
next_wrong [] ls zero line at = cc
next_wrong [] ls (suc i) line at = cc
next_wrong (None ∷ ms) [] zero line at = cc
next_wrong (None ∷ ms) (x ∷ ls) zero line at = cc
next_wrong (Some m ∷ ms) [] zero line at = cc
next_wrong (Some m ∷ ms) (x ∷ ls) zero line at = cc
next_wrong (m ∷ ms) [] (suc i) line at = cc
next_wrong (m ∷ ms) (x ∷ ls) (suc i) line at = next_wrong ms ls i line at

-- the same, where the next line has the index plus 1
next_wrong_at : (ms : List (Option Mismatch)) (ls : List NumberedLine) (i : ℕ) (line : NumberedLine)
    → slice_get ls i ≡ Some line
    → wrong_lines (drop i ms) (drop i ls)
    ≡ with_number (slice_index_or ms i None) line.number (wrong_lines (drop (i + 1) ms) (drop (i + 1) ls))
next_wrong_at ms ls i line at =
    let next : suc i ≡ i + 1 = omega arith in
    subst (λ n. wrong_lines (drop i ms) (drop i ls)
    ≡ with_number (slice_index_or ms i None) line.number (wrong_lines (drop n ms) (drop n ls))) next
    (next_wrong ms ls i line at)

-- after the last line none is wrong
pub none_behind : (ms : List (Option Mismatch)) (ls : List NumberedLine) → ls ≡ [] → wrong_lines ms ls ≡ []
none_behind [] ls is = refl
none_behind (None ∷ ms) [] is = refl
none_behind (Some m ∷ ms) [] is = refl
none_behind (None ∷ ms) (line ∷ ls) is = cc
none_behind (Some m ∷ ms) (line ∷ ls) is = cc

-- twenty numbers, and more after them
pub after_twenty : (xs rest wrong : List ℕ) (n : ℕ) (others : List ℕ) → wrong ≡ xs ++ rest → rest ≡ n ∷ others
    → length xs ≡ 20 → (xs ≡ take 20 wrong) × (20 < length wrong)
after_twenty xs rest wrong n others whole more twenty =
    let all : length wrong ≡ length xs + length rest = ap length whole ∙ length-append xs rest in
    let one : length rest ≡ suc (length others) = ap length more in (
      subst (λ count. xs ≡ take count wrong) twenty (sym (ap (take (length xs)) whole ∙ take-append_seam xs rest)),
      omega (arith, all, one, twenty),
    )

-- all numbers, and no more than twenty
pub all_found : (xs rest wrong : List ℕ) → wrong ≡ xs ++ rest → rest ≡ [] → length xs ≤ 20
    → (xs ≡ take 20 wrong) × (length wrong ≤ 20)
all_found xs rest wrong whole none most =
    let all : wrong ≡ xs = whole ∙ ap (λ others. xs ++ others) none ∙ append-nil xs in
    let count : length wrong ≡ length xs = ap length all in
    (sym (take_all 20 wrong (omega (arith, count, most)) ∙ all), omega (arith, count, most))

-- what holds of the number of each line holds of those that are wrong
pub all_wrong : (P : ℕ → Type 0) (ms : List (Option Mismatch)) (ls : List NumberedLine)
    → ((k : ℕ) → IfSome (slice_get ls k) (λ line. P line.number)) → All P (wrong_lines ms ls)
all_wrong P [] ls each = All-nil P
all_wrong P (None ∷ ms) [] each = All-nil P
all_wrong P (Some m ∷ ms) [] each = All-nil P
all_wrong P (None ∷ ms) (line ∷ ls) each = all_wrong P ms ls (λ k. each (suc k))
all_wrong P (Some m ∷ ms) (line ∷ ls) each =
    All-cons P line.number (wrong_lines ms ls) (each zero) (all_wrong P ms ls (λ k. each (suc k)))

-- a number below all others of a list in order
first_below : (x : ℕ) (xs : List ℕ) → All (λ y. x < y) xs → IsStrictlyIncreasing xs → IsStrictlyIncreasing (x ∷ xs)
first_below x xs below rises zero within = below 0 0 (omega (arith, within))
first_below x xs below rises (suc k) within =
    let next : suc (k + 1) ≡ suc k + 1 = omega arith in
    subst (λ n. slice_index (x ∷ xs) (suc k) < slice_index (x ∷ xs) n) next (rises k (omega (arith, within)))

-- what follows of an item follows of it where there is one
weaken : {A : Type 0} (P Q : A → Type 0) → ((a : A) → P a → Q a) → (item : Option A) → IfSome item P → IfSome item Q
weaken P Q follows (Some a) held = follows a held
weaken P Q follows None held = held

-- numbers that are each below the next
above : (number_at : ℕ → ℕ) → ((k : ℕ) → number_at k < number_at (suc k)) → (k : ℕ)
    → number_at zero < number_at (suc k)
above number_at up zero = up zero
above number_at up (suc k) = omega (arith, up (suc k), above number_at up k)

-- lines that are numbered in order are so where they are wrong
pub in_order : (ms : List (Option Mismatch)) (ls : List NumberedLine) (number_at : ℕ → ℕ)
    → ((k : ℕ) → number_at k < number_at (suc k))
    → ((k : ℕ) → IfSome (slice_get ls k) (λ line. line.number ≡ number_at k)) → IsStrictlyIncreasing (wrong_lines ms ls)
in_order [] ls number_at up each = λ k within. omega (arith, within)
in_order (None ∷ ms) [] number_at up each = λ k within. omega (arith, within)
in_order (Some m ∷ ms) [] number_at up each = λ k within. omega (arith, within)
in_order (None ∷ ms) (line ∷ ls) number_at up each =
    in_order ms ls (λ k. number_at (suc k)) (λ k. up (suc k)) (λ k. each (suc k))
in_order (Some m ∷ ms) (line ∷ ls) number_at up each =
    let here : line.number ≡ number_at zero = each zero in
    first_below line.number (wrong_lines ms ls)
    (all_wrong (λ y. line.number < y) ms ls
    (λ k. weaken (λ other. other.number ≡ number_at (suc k)) (λ other. line.number < other.number)
    (λ other e. omega (arith, e, here, above number_at up k)) (slice_get ls k) (each (suc k))))
    (in_order ms ls (λ k. number_at (suc k)) (λ k. up (suc k)) (λ k. each (suc k)))

-- a fault after others is of the first line after theirs
pub one_more_fault : (faults : List FaultyLine) (one : FaultyLine) (n : ℕ) (others : List ℕ) → one.line ≡ n
    → map (λ (fault : FaultyLine). fault.line) faults ++ n ∷ others
    ≡ map (λ (fault : FaultyLine). fault.line) (faults ++ one ∷ []) ++ others
one_more_fault [] one n others is = ap (λ number. number ∷ others) (sym is)
one_more_fault (y ∷ ys) one n others is = ap (λ numbers. y.line ∷ numbers) (one_more_fault ys one n others is)

-- the wrong lines from a wrong one on
pub next_some : (ms : List (Option Mismatch)) (ls : List NumberedLine) (i : ℕ) (line : NumberedLine)
    (mismatch : Mismatch)
    → slice_get ls i ≡ Some line → slice_index_or ms i None ≡ Some mismatch
    → wrong_lines (drop i ms) (drop i ls) ≡ line.number ∷ wrong_lines (drop (i + 1) ms) (drop (i + 1) ls)
next_some ms ls i line mismatch at is =
    next_wrong_at ms ls i line at
    ∙ ap (λ it. with_number it line.number (wrong_lines (drop (i + 1) ms) (drop (i + 1) ls))) is

-- the wrong lines from one on that is right
pub next_none : (ms : List (Option Mismatch)) (ls : List NumberedLine) (i : ℕ) (line : NumberedLine)
    → slice_get ls i ≡ Some line → slice_index_or ms i None ≡ None
    → wrong_lines (drop i ms) (drop i ls) ≡ wrong_lines (drop (i + 1) ms) (drop (i + 1) ls)
next_none ms ls i line at is =
    next_wrong_at ms ls i line at
    ∙ ap (λ it. with_number it line.number (wrong_lines (drop (i + 1) ms) (drop (i + 1) ls))) is

-- a line of an index within
pub there : (ls : List NumberedLine) (i : ℕ) → i < length ls → (line : NumberedLine) × (slice_get ls i ≡ Some line)
there [] i within = absurd (omega (arith, within))
there (x ∷ ls) zero within = (x, refl)
there (x ∷ ls) (suc i) within = there ls i (omega (arith, within))

-- a list that is the first of the wrong lines is empty only if none is wrong
some_wrong : (faults : List FaultyLine) (wrong : List ℕ)
    → map (λ (fault : FaultyLine). fault.line) faults ≡ take 20 wrong → (length faults == 0) ≡ false → 0 < length wrong
some_wrong [] [] same more = absurd (search (rules, more))
some_wrong (x ∷ xs) [] same more = cc
some_wrong faults (w ∷ ws) same more = omega arith

-- what follows of two facts of an item follows of them where there is one
both : {A : Type 0} (P Q R : A → Type 0) → ((a : A) → P a → Q a → R a) → (item : Option A) → IfSome item P
    → IfSome item Q → IfSome item R
both P Q R follows (Some a) held besides = follows a held besides
both P Q R follows None held besides = held

-- what holds of an item where there is one holds of this one
of_some : {A : Type 0} (P : A → Type 0) (item : Option A) (a : A) → item ≡ Some a → IfSome item P → P a
of_some P item a is held = subst (λ it. IfSome it P) is held

-- the first faults of numbered lines of a text are its faults
pub are_faults : (text : List ℕ) (source : List NumberedLine) (ms : List (Option Mismatch)) (list : FaultList)
    → ((k : ℕ) → IfSome (slice_get source k) (λ other. IsLine text k other.text.now))
    → ((k : ℕ) → IfSome (slice_get source k) (λ other. other.number ≡ k + 1))
    → map (λ (fault : FaultyLine). fault.line) list.faults.items ≡ take 20 (wrong_lines ms source)
    → (list.has_more ≡ true) ↔ (20 < length (wrong_lines ms source))
    → (length list.faults.items == 0) ≡ false
    → AreFaultsOf text list
are_faults text source ms list lines numbers first more some =
    record {
      wrong = wrong_lines ms source;
      some = some_wrong list.faults.items (wrong_lines ms source) first some;
      lines =
          all_wrong (HasLine text) ms source
          (λ k. both (λ other. other.number ≡ k + 1) (λ other. IsLine text k other.text.now)
          (λ other. HasLine text other.number) (λ other is there. (k, is, inr there.0))
          (slice_get source k) (numbers k) (lines k));
      order = in_order ms source (λ k. k + 1) (λ k. omega arith) numbers;
      first = first;
      more = more;
    }

-- the one fault of a text whose code is too long
pub is_one_fault : (text : List ℕ) (n : ℕ) (list : FaultList) → HasLine text n
    → map (λ (fault : FaultyLine). fault.line) list.faults.items ≡ take 20 (n ∷ [])
    → (list.has_more ≡ true) ↔ (20 < 1)
    → AreFaultsOf text list
is_one_fault text n list has first more =
    record {
      wrong = n ∷ [];
      some = omega arith;
      lines = All-cons (HasLine text) n [] has (All-nil (HasLine text));
      order = λ k within. absurd (omega (arith, within));
      first = first;
      more = more;
    }

-- a line of a text, or its first
pub has_line : (text : List ℕ) (source : List NumberedLine) (line : NumberedLine)
    → ((k : ℕ) → IfSome (slice_get source k) (λ other. IsLine text k other.text.now))
    → ((k : ℕ) → IfSome (slice_get source k) (λ other. other.number ≡ k + 1))
    → (line.number ≡ 1) ⊎ ((k : ℕ) × (slice_get source k ≡ Some line)) → HasLine text line.number
has_line text source line lines numbers (inl first) = (0, first, inl refl)
has_line text source line lines numbers (inr at) = (
  at.0,
  of_some (λ other. other.number ≡ at.0 + 1) (slice_get source at.0) line at.1 (numbers at.0),
  inr (of_some (λ other. IsLine text at.0 other.text.now) (slice_get source at.0) line at.1 (lines at.0)).0,
)

first_of : (text : List ℕ) (faults : List FaultyLine) (wrong : List ℕ) → 0 < length wrong → All (HasLine text) wrong
    → map (λ (fault : FaultyLine). fault.line) faults ≡ take 20 wrong → (one : FaultyLine)
    → one ≡ slice_index_or faults 0 one → HasLine text one.line
first_of text faults [] some all same one is = absurd (omega (arith, some))
first_of text [] (w ∷ ws) some all same one is = cc
first_of text (f ∷ fs) (w ∷ ws) some all same one is =
    subst (HasLine text)
    (sym (ap (λ (fault : FaultyLine). fault.line) is ∙ ap (λ ns. slice_index ns 0) same)) (all 0 0 some)

-- the first fault of a text is of one of its lines
pub first_line : (text : List ℕ) (list : FaultList) → AreFaultsOf text list → (one : FaultyLine)
    → one ≡ slice_index_or list.faults.items 0 one → HasLine text one.line
first_line text list are one is = first_of text list.faults.items are.wrong are.some are.lines are.first one is

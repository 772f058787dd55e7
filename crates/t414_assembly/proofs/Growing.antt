-- How starts, rooms and bytes go on by one statement: the contracts of `first_rooms` and `starts_of`, the clauses of
-- `lay_out_once`, and that the rounds of `lay_out` end.
use Rattle.std.proofs.Common.{ℕ, ◌≡◌, ◌≢◌, ◌<◌, ◌≤◌, ◌+◌, ◌*◌, ◌++◌, ◌⊎◌, inl, inr, List, [], ◌∷◌, Some, length, Bool}
use Rattle.std.proofs.Common.{true, false, replicate, set, sum, take, flat_map, get_or, slice_index, refl, sym, ap, ◌∙◌}
use Rattle.std.proofs.Common.{subst, arith, length-append, length-set, get_or-set_same, get_or-set_other, append-nil}
use Rattle.std.specs.List.{slice_get}
use Rattle.std.proofs.lemmas.Bool.{cases_lt, cases_order}
use Rattle.std.proofs.lemmas.List.{length-replicate, get_or-replicate, get_or_append_left}
use Rattle.std.proofs.lemmas.List.{get_or_at, get_or_past, get_or_default, take-append-le, take_all}
use Rattle.std.proofs.lemmas.Grind.{flat_map-append}
use Rattle.std.proofs.lemmas.List.Sums.{sum_by-set, sum_by-le}
use Rattle.std.proofs.lemmas.Option.{get_or_from_slice_get, slice_get_within}
use Rattle.t414_assembly.specs.declared.statement.Operand.TheVariants.{Number, Label, Difference}
use Rattle.t414_assembly.specs.declared.statement.Statement.{Statement}
use Rattle.t414_assembly.specs.declared.statement.Statement.TheVariants.{Instruction, Byte, Word, Align, Space}
use Rattle.t414_decode.specs.Meaning.{read_from}
use Rattle.t414_assembly.specs.Program.{address_of, IsPiece, IsImage}
use Rattle.t414_assembly.specs.Layout.{size_of, IsTight, AreRooms, AreStarts, PutsPiece}

some_bytes : (others : List ℕ) {m : _} → read_from 0 others ≡ Some m → 1 ≤ length others
unfolding read_from
some_bytes [] same = cc
some_bytes (b ∷ bs) same = omega arith

-- a room of one byte isn't larger than any statement needs
pub tight_one : (s : Statement) → IsTight 1 s
tight_one (Instruction f (Number n)) = (λ _. refl, λ others off h. some_bytes others h)
tight_one (Instruction f (Label p n)) = λ _. refl
tight_one (Instruction f (Difference p q n)) = λ _. refl
tight_one (Byte b) = tt
tight_one (Word o) = tt
tight_one (Align n) = tt
tight_one (Space n) = tt

one_at : (n k : ℕ) → k < n → slice_index (replicate n 1) k ≡ 1
one_at n k lt = get_or-replicate n k 1 0 lt

-- one byte for each statement is a room for each
pub rooms_of_ones : (statements : List Statement) → AreRooms statements (replicate (length statements) 1)
rooms_of_ones statements =
    let count : length (replicate {A = ℕ} (length statements) 1) ≡ length statements =
    length-replicate (length statements) 1 in
    record {
      count = count;
      least =
          λ k lt. (let e : slice_index (replicate (length statements) 1) k ≡ 1 =
          one_at (length statements) k (omega (arith, lt, count)) in
          omega (arith, e));
      most = λ k. elim (cases_lt k (length statements)) [
        | inl lt ↦
            (let e : slice_index (replicate (length statements) 1) k ≡ 1 = one_at (length statements) k lt in
            omega (arith, e))
        | inr past ↦
            (let e : slice_index (replicate (length statements) 1) k ≡ 0 =
            get_or_past (replicate (length statements) 1) k 0 (omega (arith, past, count)) in
            omega (arith, e))
      ];
      tight =
          λ k s at. subst (λ room. IsTight room s)
          (sym (one_at (length statements) k (slice_get_within statements k s at))) (tight_one s);
    }

same_statement : (statements : List Statement) (k : ℕ) (s statement : Statement)
    → slice_get statements k ≡ Some s → slice_get statements k ≡ Some statement
    → s ≡ statement
same_statement statements k s statement here there =
    sym (get_or_from_slice_get statements k s s here) ∙ get_or_from_slice_get statements k statement s there

-- starts of the first places, with that after the next statement, are starts of one place more
pub more_starts : (origin : ℕ) (statements : List Statement) (rooms : List ℕ) (i : ℕ) (starts : List ℕ)
    (start size : ℕ) (s : Statement)
    → AreStarts origin statements rooms i starts → slice_index starts i ≡ start → slice_get statements i ≡ Some s
    → size ≡ size_of (origin + start) (slice_index rooms i) s → start + size ≤ 65464
    → AreStarts origin statements rooms (i + 1) (starts ++ (start + size) ∷ [])
more_starts origin statements rooms i starts start size s given last at is most =
    let old : (k : ℕ) → k < i + 1 → slice_index (starts ++ (start + size) ∷ []) k ≡ slice_index starts k =
    λ k lt. get_or_append_left starts ((start + size) ∷ []) 0 k (omega (arith, lt, given.count)) in
    let new : slice_index (starts ++ (start + size) ∷ []) (i + 1) ≡ start + size =
    get_or_at starts (start + size) [] 0 (i + 1) given.count in
    let total : length (starts ++ (start + size) ∷ []) ≡ i + 1 + 1 =
    length-append starts ((start + size) ∷ []) ∙ omega (arith, given.count) in
    let step : (k : ℕ) (t : Statement) → slice_get statements k ≡ Some t → (k < i) ⊎ (k ≡ i)
    → slice_index (starts ++ (start + size) ∷ []) (k + 1)
    ≡ slice_index (starts ++ (start + size) ∷ []) k
    + size_of (address_of origin (starts ++ (start + size) ∷ []) k) (slice_index rooms k) t =
    λ k t here c. elim c [
      | inl lt ↦
          old (k + 1) (omega (arith, lt)) ∙ given.next k t lt here
          ∙ ap (λ x. x + size_of (origin + x) (slice_index rooms k) t) (sym (old k (omega (arith, lt))))
      | inr e ↦
          ap (λ j. slice_index (starts ++ (start + size) ∷ []) (j + 1)) e ∙ new
          ∙ ap (λ z. start + z)
          (is
          ∙ ap (size_of (origin + start) (slice_index rooms i))
          (same_statement statements i s t at (ap (slice_get statements) (sym e) ∙ here)))
          ∙ ap (λ x. x + size_of (origin + x) (slice_index rooms i) t) (sym last ∙ sym (old i (omega arith)))
          ∙ ap (λ j. slice_index (starts ++ (start + size) ∷ []) j
          + size_of (address_of origin (starts ++ (start + size) ∷ []) j) (slice_index rooms j) t)
          (sym e)
    ] in
    record {
      count = total;
      first = old 0 (omega arith) ∙ given.first;
      next =
          λ k t lt here. step k t here
          (elim (cases_lt k i) [ inl less ↦ inl less | inr ge ↦ inr (omega (arith, lt, ge)) ]);
      most = λ k. elim (cases_order k (i + 1)) [
        | inl e ↦
            (let v : slice_index (starts ++ (start + size) ∷ []) k ≡ start + size =
            ap (slice_index (starts ++ (start + size) ∷ [])) e ∙ new in
            omega (arith, v, most))
        | inr c ↦ elim c [
          | inl lt ↦ omega (arith, old k lt, given.most k)
          | inr past ↦
              (let v : slice_index (starts ++ (start + size) ∷ []) k ≡ 0 =
              get_or_past (starts ++ (start + size) ∷ []) k 0 (omega (arith, past, total)) in
              omega (arith, v))
        ]
      ];
    }

-- the bytes of the first statements, with those of the next, are the bytes of one statement more
pub more_bytes : (origin : ℕ) (statements : List Statement) (starts : List ℕ) (i room : ℕ)
    (s : Statement) (old new : List ℕ)
    → IsImage origin statements starts i old → slice_get statements i ≡ Some s
    → slice_index starts (i + 1) ≡ slice_index starts i + size_of (address_of origin starts i) room s
    → PutsPiece origin starts i room s old new
    → IsImage origin statements starts (i + 1) new
more_bytes origin statements starts i room s old new given at next put =
    let piece : List ℕ = put.0 in
    let before : (k : ℕ) → k ≤ i → take k (given.pieces ++ put.0 ∷ []) ≡ take k given.pieces =
    λ k le. take-append-le k given.pieces (put.0 ∷ []) (omega (arith, le, given.count)) in
    let total : length (given.pieces ++ put.0 ∷ []) ≡ i + 1 =
    length-append given.pieces (put.0 ∷ []) ∙ omega (arith, given.count) in
    let all : flat_map (λ p. p) (given.pieces ++ put.0 ∷ []) ≡ flat_map (λ p. p) given.pieces ++ put.0 =
    flat_map-append (λ p. p) given.pieces (put.0 ∷ [])
    ∙ ap (λ xs. flat_map (λ p. p) given.pieces ++ xs) (append-nil put.0) in
    let so_far : length (flat_map (λ p. p) given.pieces) ≡ slice_index starts i =
    ap (λ ps. length (flat_map (λ p. p) ps)) (sym (take_all i given.pieces (omega (arith, given.count))))
    ∙ sym (given.places i (omega arith)) in
    let count : length (flat_map (λ p. p) given.pieces ++ put.0) ≡ slice_index starts (i + 1) =
    length-append (flat_map (λ p. p) given.pieces) put.0 ∙ omega (arith, so_far, put.2, next) in
    record {
      pieces = given.pieces ++ put.0 ∷ [];
      count = total;
      whole = put.1 ∙ ap (λ xs. xs ++ put.0) given.whole ∙ sym all;
      places = λ k le. elim (cases_lt k (i + 1)) [
        | inl lt ↦
            given.places k (omega (arith, lt))
            ∙ ap (λ ps. length (flat_map (λ p. p) ps)) (sym (before k (omega (arith, lt))))
        | inr ge ↦
            (let e : k ≡ i + 1 = omega (arith, le, ge) in
            ap (slice_index starts) e ∙ sym count ∙ ap length (sym all)
            ∙ ap (λ ps. length (flat_map (λ p. p) ps))
            (sym (take_all k (given.pieces ++ put.0 ∷ []) (omega (arith, total, e)))))
      ];
      each = λ k t lt here. elim (cases_lt k i) [
        | inl less ↦
            subst (IsPiece (address_of origin starts) (k + 1) t)
            (sym (get_or_append_left given.pieces (put.0 ∷ []) [] k (omega (arith, less, given.count))))
            (given.each k t less here)
        | inr ge ↦
            (let e : k ≡ i = omega (arith, lt, ge) in
            let value : get_or (given.pieces ++ put.0 ∷ []) k [] ≡ put.0 =
            ap (λ j. get_or (given.pieces ++ put.0 ∷ []) j []) e ∙ get_or_at given.pieces put.0 [] [] i given.count in
            let stmt : s ≡ t = same_statement statements i s t at (ap (slice_get statements) (sym e) ∙ here) in
            subst (IsPiece (address_of origin starts) (k + 1) t) (sym value)
            (subst (λ j. IsPiece (address_of origin starts) (j + 1) t put.0) (sym e)
            (subst (λ u. IsPiece (address_of origin starts) (i + 1) u put.0) stmt put.3)))
      ];
    }

-- if one number of a list is replaced by n, the sum loses that number and gains n
pub sum-set : (xs : List ℕ) (i n : ℕ) → i < length xs → sum (set xs i n) + slice_index xs i ≡ sum xs + n
sum-set xs i n lt = sum_by-set (λ x. x) xs i n 0 lt

-- numbers of at most 8 have a sum of at most 8 times their count
pub sum-most : (xs : List ℕ) → ((k : ℕ) → slice_index xs k ≤ 8) → sum xs ≤ length xs * 8
sum-most xs most = sum_by-le (λ x. x) 8 xs (λ k d lt. subst (λ x. x ≤ 8) (get_or_default xs k 0 d lt) (most k))

-- rooms with one that was replaced by another that is tight, of 1 to 8 bytes, are rooms of the statements
pub more_room : (statements : List Statement) (rooms : List ℕ) (i n : ℕ) (s : Statement)
    → AreRooms statements rooms → slice_get statements i ≡ Some s → 1 ≤ n → n ≤ 8 → IsTight n s
    → AreRooms statements (set rooms i n)
more_room statements rooms i n s given at least most tight =
    let within : i < length rooms = omega (arith, slice_get_within statements i s at, given.count) in
    let here : slice_index (set rooms i n) i ≡ n = get_or-set_same rooms i n 0 within in
    let there : (k : ℕ) → k ≢ i → slice_index (set rooms i n) k ≡ slice_index rooms k =
    λ k ne. get_or-set_other rooms i k n 0 ne in
    let count : length (set rooms i n) ≡ length rooms = length-set rooms i n in
    let at_all : (P : ℕ → ℕ → Type 0) → P i n → ((k : ℕ) → k ≢ i → P k (slice_index rooms k)) → (k : ℕ)
    → P k (slice_index (set rooms i n) k) =
    λ P one others k. elim (cases_order k i) [
      | inl e ↦ subst (λ j. P j (slice_index (set rooms i n) j)) (sym e) (subst (P i) (sym here) one)
      | inr c ↦
          (let ne : k ≢ i = elim c [ inl lt ↦ λ e. omega (arith, lt, e) | inr lt ↦ λ e. omega (arith, lt, e) ] in
          subst (P k) (sym (there k ne)) (others k ne))
    ] in
    record {
      count = count ∙ given.count;
      least =
          λ k lt. at_all (λ j v. j < length rooms → 1 ≤ v) (λ _. least)
          (λ j _ l. given.least j l) k (omega (arith, lt, count));
      most = at_all (λ j v. v ≤ 8) most (λ j _. given.most j);
      tight =
          λ k t there_is. at_all (λ j v. slice_get statements j ≡ Some t → IsTight v t)
          (λ is. subst (IsTight n) (same_statement statements i s t at is) tight)
          (λ j _ is. given.tight j t is) k there_is;
    }

-- a number that is less than another if a flag is set, and else equal to it, is at most the other
pub le_of_flag : (grown : Bool) (a b : ℕ) → (grown ≡ true → a < b) → (grown ≡ false → a ≡ b) → a ≤ b
le_of_flag true a b more same = omega (arith, more refl)
le_of_flag false a b more same = omega (arith, same refl)

-- the start after a statement is its own start and its size in its room
pub next_at : (origin : ℕ) (statements : List Statement) (rooms starts : List ℕ) (n i room : ℕ) {s : Statement}
    → AreStarts origin statements rooms n starts → i < n → slice_get statements i ≡ Some s → slice_index rooms i ≡ room
    → slice_index starts (i + 1) ≡ slice_index starts i + size_of (address_of origin starts i) room s
next_at origin statements rooms starts n i room {s} given lt at same =
    given.next i s lt at ∙ ap (λ r. slice_index starts i + size_of (address_of origin starts i) r s) same

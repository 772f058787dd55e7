-- The code of a copy does what the copy does: for the law of processes.
use Rattle.std.proofs.Common.{◌≡◌, ℕ, zero, suc, ◌+◌, ◌-◌, ◌*◌, ◌/◌, ◌%◌, ◌^◌, ◌<◌, ◌≤◌, ◌⊎◌, inl, inr, List, [], ◌∷◌, length, Ok, refl, sym, ap, ◌∙◌, subst, arith}
use Rattle.std.specs.Prelude.{slice_index, slice_set}
use Rattle.node_memory.specs.Bytes.{first_address, byte_at, with_byte, result_and_then, after_write, copied}
use Rattle.node_memory.specs.Effect.{Gave, tried}
use Rattle.node_memory.specs.Words.{◌⊕◌, ◌⊗◌}
use Rattle.t414_decode.specs.Codes.{operation_of}
use Rattle.t414_decode.specs.declared.instruction.Function.TheVariants.{Operate}
use Rattle.t414_assembly.specs.declared.statement.Operand.TheVariants as operand
use Rattle.t414_step.specs.Rows.{row, direct}
use Rattle.occam_core.specs.declared.expression.CoreArray.{CoreArray}
use Rattle.occam_core.specs.declared.process.CoreProcess.TheVariants.{Copy}
use Rattle.occam_core.specs.Processes.{Situation, Ended, byte_in, with_byte_of, with_byte_in, with_bytes_in, bytes_of_store, array_size}
use Rattle.occam_code.specs.Instructions as asm
use Rattle.occam_code.specs.Code.{copy_code}
use Rattle.occam_code.specs.Evaluates.{array_words, word_in}
use Rattle.occam_code.proofs.Workspace.{byte_is}
use Rattle.occam_code.proofs.Operations.{at}
use Rattle.occam_code.proofs.Lone.{Lies, Advances, advances_on, some}
use Rattle.occam_code.proofs.Assigning.{set_same, set_other, apart_or}
use Rattle.occam_code.proofs.MessageBytes.{byte_put}
use Rattle.occam_code.proofs.StoreBytes.{held_byte}
use Rattle.occam_code.proofs.Behaving.{Ground, st, Held, ends_as, ended, rows, Runs}
use Rattle.occam_code.proofs.Repeating.{points}
use Rattle.occam_code.proofs.Speaking.{constants}
use Rattle.occam_code.proofs.ArrayMessages.{size_fits, operand_is, words_fit, array_at}

-- another byte of a word than the one that was written
other_byte_of : (word p q b : ℕ) → p < 4 → q < 4 → (p < q) ⊎ (q < p) → b < 2 ^ 8
    → with_byte_of word p b / 2 ^ (8 * q) % 2 ^ 8 ≡ word / 2 ^ (8 * q) % 2 ^ 8
other_byte_of word zero zero b fp fq (inl before) fits = absurd (omega (arith, before))
other_byte_of word zero zero b fp fq (inr after) fits = absurd (omega (arith, after))
other_byte_of word zero (suc zero) b fp fq apart fits = omega (arith, fits)
other_byte_of word zero (suc (suc zero)) b fp fq apart fits = omega (arith, fits)
other_byte_of word zero (suc (suc (suc zero))) b fp fq apart fits = omega (arith, fits)
other_byte_of word zero (suc (suc (suc (suc q)))) b fp fq apart fits = absurd (omega arith)
other_byte_of word (suc zero) zero b fp fq apart fits = omega (arith, fits)
other_byte_of word (suc zero) (suc zero) b fp fq (inl before) fits = absurd (omega (arith, before))
other_byte_of word (suc zero) (suc zero) b fp fq (inr after) fits = absurd (omega (arith, after))
other_byte_of word (suc zero) (suc (suc zero)) b fp fq apart fits = omega (arith, fits)
other_byte_of word (suc zero) (suc (suc (suc zero))) b fp fq apart fits = omega (arith, fits)
other_byte_of word (suc zero) (suc (suc (suc (suc q)))) b fp fq apart fits = absurd (omega arith)
other_byte_of word (suc (suc zero)) zero b fp fq apart fits = omega (arith, fits)
other_byte_of word (suc (suc zero)) (suc zero) b fp fq apart fits = omega (arith, fits)
other_byte_of word (suc (suc zero)) (suc (suc zero)) b fp fq (inl before) fits = absurd (omega (arith, before))
other_byte_of word (suc (suc zero)) (suc (suc zero)) b fp fq (inr after) fits = absurd (omega (arith, after))
other_byte_of word (suc (suc zero)) (suc (suc (suc zero))) b fp fq apart fits = omega (arith, fits)
other_byte_of word (suc (suc zero)) (suc (suc (suc (suc q)))) b fp fq apart fits = absurd (omega arith)
other_byte_of word (suc (suc (suc zero))) zero b fp fq apart fits = omega (arith, fits)
other_byte_of word (suc (suc (suc zero))) (suc zero) b fp fq apart fits = omega (arith, fits)
other_byte_of word (suc (suc (suc zero))) (suc (suc zero)) b fp fq apart fits = omega (arith, fits)
other_byte_of word (suc (suc (suc zero))) (suc (suc (suc zero))) b fp fq (inl before) fits = absurd
    (omega (arith, before))
other_byte_of word (suc (suc (suc zero))) (suc (suc (suc zero))) b fp fq (inr after) fits = absurd
    (omega (arith, after))
other_byte_of word (suc (suc (suc zero))) (suc (suc (suc (suc q)))) b fp fq apart fits = absurd (omega arith)
other_byte_of word (suc (suc (suc (suc p)))) q b fp fq apart fits = absurd (omega arith)

-- the places of two bytes in their words, where these are one
places_apart : (i j : ℕ) → (i < j) ⊎ (j < i) → i / 4 ≡ j / 4 → (i % 4 < j % 4) ⊎ (j % 4 < i % 4)
places_apart i j (inl before) same = inl (omega (arith, before, same))
places_apart i j (inr after) same = inr (omega (arith, after, same))

-- another byte of a store than the one that was written
byte_beside : (store : List ℕ) (i j b : ℕ) → i / 4 < length store → (i < j) ⊎ (j < i) → b < 2 ^ 8
    → ((i / 4 < j / 4) ⊎ (j / 4 < i / 4)) ⊎ (i / 4 ≡ j / 4)
    → byte_in (with_byte_in store i b) j ≡ byte_in store j
byte_beside store i j b within apart fits (inl words) =
    ap (λ word. word / 2 ^ (8 * (j % 4)) % 2 ^ 8)
    (set_other store (i / 4) (with_byte_of (slice_index store (i / 4)) (i % 4) b) (j / 4) words)
byte_beside store i j b within apart fits (inr same) =
    let word = slice_index store (i / 4) in
    ap (λ k. slice_index (with_byte_in store i b) k / 2 ^ (8 * (j % 4)) % 2 ^ 8) (sym same)
    ∙ ap (λ k. k / 2 ^ (8 * (j % 4)) % 2 ^ 8) (set_same store (i / 4) (with_byte_of word (i % 4) b) within)
    ∙ other_byte_of word (i % 4) (j % 4) b (omega arith) (omega arith) (places_apart i j apart same) fits
    ∙ ap (λ k. slice_index store k / 2 ^ (8 * (j % 4)) % 2 ^ 8) same

-- bytes that are read later stay, if the one that is written is before or after them
bytes_beside : (n : ℕ) (store : List ℕ) (i j b : ℕ) → i / 4 < length store → (i < j) ⊎ (j + n ≤ i) → b < 2 ^ 8
    → bytes_of_store n (with_byte_in store i b) j ≡ bytes_of_store n store j
bytes_beside zero store i j b within apart fits = refl
bytes_beside (suc n) store i j b within (inl before) fits =
    ap (λ byte. byte ∷ bytes_of_store n (with_byte_in store i b) (j + 1))
    (byte_beside store i j b within (inl before) fits (apart_or (i / 4) (j / 4)))
    ∙ ap (λ bytes. byte_in store j ∷ bytes)
    (bytes_beside n store i (j + 1) b within (inl (omega (arith, before))) fits)
bytes_beside (suc n) store i j b within (inr after) fits =
    ap (λ byte. byte ∷ bytes_of_store n (with_byte_in store i b) (j + 1))
    (byte_beside store i j b within (inr (omega (arith, after))) fits (apart_or (i / 4) (j / 4)))
    ∙ ap (λ bytes. byte_in store j ∷ bytes)
    (bytes_beside n store i (j + 1) b within (inr (omega (arith, after))) fits)

-- the rest of a copy begins as the whole did
rest_apart : (n from to : ℕ) → (to ≤ from) ⊎ (from + suc n ≤ to) → (to + 1 ≤ from + 1) ⊎ (from + 1 + n ≤ to + 1)
rest_apart n from to (inl before) = inl (omega (arith, before))
rest_apart n from to (inr after) = inr (omega (arith, after))

-- and doesn't read what is written first
first_apart : (n from to : ℕ) → (to ≤ from) ⊎ (from + suc n ≤ to) → (to < from + 1) ⊎ (from + 1 + n ≤ to)
first_apart n from to (inl before) = inl (omega (arith, before))
first_apart n from to (inr after) = inr (omega (arith, after))

-- bytes of the variables are copied
record IsCopied (ground : Ground) (n from to : ℕ) (m : List ℕ) (now : Situation) : Type 0 where
  memory : List ℕ
  is : copied n m (ground.registers.workspace + 4 * ground.base + from)
      (ground.registers.workspace + 4 * ground.base + to)
      ≡ (Ok tt, memory)
  held : Held ground memory (record now { store = with_bytes_in now.store to (bytes_of_store n now.store from) })

-- they are
copies : (ground : Ground) (n from to : ℕ) (m : List ℕ) (now : Situation) → Held ground m now
    → from + n ≤ 4 * ground.count → to + n ≤ 4 * ground.count → ground.count + ground.base ≤ ground.size
    → (to ≤ from) ⊎ (from + n ≤ to) → IsCopied ground n from to m now
copies ground zero from to m now held source target room apart = record { memory = m; is = refl; held = held }
copies ground (suc n) from to m now held source target room apart =
    let h = held.holds in
    let w = ground.registers.workspace in
    let begin = w + 4 * ground.base in
    let byte = byte_in now.store from in
    let next = slice_set m (w - first_address + 4 * ground.base + to) byte in
    let then_now = record now { store = with_byte_in now.store to byte } in
    let under : from / 4 < ground.count = omega (arith, source) in
    let below : to < 4 * ground.count = omega (arith, target) in
    let small : byte < 2 ^ 8 = omega arith in
    let found : byte_at m (begin + from) ≡ Ok byte =
    ap (λ q. byte_at m q) (omega arith)
    ∙ byte_is w ground.base ground.size ground.count 0 from now.store m h (omega (arith, under, room))
    ∙ ap (λ q. Ok (word_in w m q / 2 ^ (8 * (from % 4)) % 2 ^ 8)) (omega arith)
    ∙ ap (λ q. Ok (q / 2 ^ (8 * (from % 4)) % 2 ^ 8)) (h.variables (from / 4) under) in
    let put : with_byte m (begin + to) byte ≡ Ok next =
    byte_put m (begin + to) byte (omega (arith, h.least)) (omega (arith, h.least, h.most, below, room))
    ∙ ap (λ q. Ok (slice_set m q byte)) (omega (arith, h.least)) in
    let rest = copies ground n (from + 1) (to + 1) next then_now
    (held_byte ground to byte m now held below room small) (omega (arith, source)) (omega (arith, target)) room
    (rest_apart n from to apart) in
    let same : bytes_of_store n then_now.store (from + 1) ≡ bytes_of_store n now.store (from + 1) =
    bytes_beside n now.store to (from + 1) byte (omega (arith, below, held.long)) (first_apart n from to apart) small in
    let e1 : begin + from + 1 ≡ begin + (from + 1) = omega arith in
    let e2 : begin + to + 1 ≡ begin + (to + 1) = omega arith in
    record {
      memory = rest.memory;
      is = ap (λ q. after_write (result_and_then q (with_byte m (begin + to))) m
          (λ l. copied n l (begin + from + 1) (begin + to + 1))) found
          ∙ ap (λ q. after_write q m (λ l. copied n l (begin + from + 1) (begin + to + 1))) put
          ∙ ap (λ q. copied n next q (begin + to + 1)) e1 ∙ ap (λ q. copied n next (begin + (from + 1)) q) e2 ∙ rest.is;
      held = subst (λ bytes. Held ground rest.memory
          (record now { store = with_bytes_in then_now.store (to + 1) bytes })) same rest.held;
    }

-- a copy of arrays
apart_bytes : (first other many : ℕ) → (first ≤ other) ⊎ (4 * other + many ≤ 4 * first)
    → (4 * first ≤ 4 * other) ⊎ (4 * other + many ≤ 4 * first)
apart_bytes first other many (inl before) = inl (omega (arith, before))
apart_bytes first other many (inr after) = inr after

module _ (ground : Ground) where
  open ground use {setting as g, program, registers as s, links as ls, base, size, count}

  -- the operation of a copy
  moves : (k n to from : ℕ) (m u : List ℕ) (now : Situation) (breaks : ℕ) → Lies g program k (asm.move ∷ [])
      → copied n m from to ≡ (Ok tt, u)
      → Advances g program (st ground k n to from m now breaks) (st ground (k + 1) n to from u now breaks)
  unfolding direct row operation_of
  moves k n to from m u now breaks lies is =
      some g program (st ground k n to from m now breaks) (st ground (k + 1) n to from u now breaks)
      (rows ground k n to from (k + 1) n to from m u now breaks Operate (operand.Number 0x4A) [] lies refl
      (ap (λ q. tried q.0 ls q.1 (λ _. Gave (at s (g.address (k + 1)) n to from) ls q.1)) is))

  -- a copy
  pub copy_runs : (to from : CoreArray) → (to.first ≤ from.first) ⊎ (4 * from.first + array_size to ≤ 4 * to.first)
      → to.first + array_words to.kind to.length ≤ count → from.first + array_words to.kind to.length ≤ count
      → Runs ground (Copy to from)
  copy_runs to from apart target source n k spare a b d m now breaks lies held free room =
      let many = array_size to in
      let inside : count + base ≤ size = omega (arith, free, room) in
      let fits = words_fit ground (array_words to.kind to.length) m now held (omega (arith, target)) inside in
      let same = operand_is to.kind to.length fits in
      let fit = size_fits to.kind to.length in
      let lies' = subst (λ j. Lies g program k
      (asm.ldlp (from.first ⊕ base) ∷ asm.ldlp (to.first ⊕ base) ∷ asm.ldc j ∷ asm.move ∷ [])) same lies in
      let p_from = s.workspace ⊕ 4 ⊗ (from.first ⊕ base) in
      let p_to = s.workspace ⊕ 4 ⊗ (to.first ⊕ base) in
      let copy = copies ground many (4 * from.first) (4 * to.first) m now held (omega (arith, source, fit))
      (omega (arith, target, fit)) inside (apart_bytes to.first from.first many apart) in
      let after = record now {
        store = with_bytes_in now.store (4 * to.first) (bytes_of_store many now.store (4 * from.first));
      } in
      let is : copied many m p_from p_to ≡ (Ok tt, copy.memory) =
      ap (λ q. copied many m q p_to) (array_at ground from.first m now held (omega (arith, source, inside)))
      ∙ ap (λ q. copied many m (s.workspace + 4 * base + 4 * from.first) q)
      (array_at ground to.first m now held (omega (arith, target, inside)))
      ∙ copy.is in
      let p = st ground k a b d m now breaks in
      let p1 = st ground (k + 1) p_from a b m now breaks in
      let p2 = st ground (k + 1 + 1) p_to p_from a m now breaks in
      let p3 = st ground (k + 1 + 1 + 1) many p_to p_from m now breaks in
      let p4 = st ground (k + 1 + 1 + 1 + 1) many p_to p_from copy.memory after breaks in
      let place : k + 1 + 1 + 1 + 1 ≡ k + length (copy_code base to from) = omega arith in
      ends_as ground (Ended after) n (k + 1 + 1 + 1 + 1) (k + length (copy_code base to from)) p place
      (ended ground n (k + 1 + 1 + 1 + 1) many p_to p_from copy.memory after breaks p
      (advances_on g program p p1 p4
      (some g program p p1
      (points ground k (from.first ⊕ base) a b d m now breaks
      (asm.ldlp (to.first ⊕ base) ∷ asm.ldc many ∷ asm.move ∷ []) lies'))
      (advances_on g program p1 p2 p4
      (some g program p1 p2
      (points ground (k + 1) (to.first ⊕ base) p_from a b m now breaks (asm.ldc many ∷ asm.move ∷ []) lies'.2))
      (advances_on g program p2 p3 p4
      (some g program p2 p3
      (constants ground (k + 1 + 1) many p_to p_from a m now breaks (asm.move ∷ []) lies'.2.2))
      (moves (k + 1 + 1 + 1) many p_to p_from m copy.memory now breaks lies'.2.2.2 is))))
      copy.held)

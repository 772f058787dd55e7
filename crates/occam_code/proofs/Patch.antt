-- The place of a jump is written once it is known.
use Rattle.std.proofs.Common.{◌≡◌, ℕ, ◌+◌, List, [], ◌∷◌, ◌++◌, length, ap, ◌∙◌, arith, append_assoc, length-append}
use Rattle.std.specs.Prelude.{slice_set}
use Rattle.std.proofs.Math.Seq.{set-append_seam}
use Rattle.node_memory.specs.Words.{◌⊕◌}
use Rattle.t414_decode.specs.declared.instruction.Function.TheVariants.{LoadConstant}
use Rattle.t414_assembly.specs.declared.statement.Operand.TheVariants.{Difference}
use Rattle.t414_assembly.specs.declared.statement.Statement.{Statement}
use Rattle.t414_assembly.specs.declared.statement.Statement.TheVariants.{Instruction}
use Rattle.occam_code.specs.Instructions as asm
use Rattle.occam_code.specs.Expressions.{and_code, or_code}
use Rattle.occam_code.specs.Code.{choice_code, loop_code, count_code, loop_end_code, repeat_code}

-- one statement is written over
pub written : (whole pre post : List Statement) (blank blank' : Statement) (n : ℕ) → whole ≡ pre ++ blank ∷ post
    → n ≡ length pre
    → slice_set whole n blank' ≡ pre ++ blank' ∷ post
written whole pre post blank blank' n same place =
    ap (λ l. slice_set l n blank') same ∙ ap (λ k. slice_set (pre ++ blank ∷ post) k blank') place
    ∙ set-append_seam pre blank post blank'

-- the length of a code after another
pub longer : (whole base more : List Statement) → whole ≡ base ++ more → length whole ≡ length base + length more
longer whole base more same = ap length same ∙ length-append base more

-- one more statement and a code that begins after it
put_then : (c1 c2 c3 : List Statement) (blank : Statement) (next : ℕ → List Statement) (k : ℕ)
    → c2 ≡ c1 ++ blank ∷ [] → length c1 + 1 ≡ k → c3 ≡ c2 ++ next (length c2) → c3 ≡ c1 ++ blank ∷ next k
put_then c1 c2 c3 blank next k e2 long e3 =
    let l2 : length c2 ≡ k = omega (arith, longer c2 c1 (blank ∷ []) e2) in
    e3 ∙ ap (λ n. c2 ++ next n) l2 ∙ ap (λ c. c ++ next k) e2 ∙ append_assoc c1 (blank ∷ []) (next k)

-- the code of an AND
pub patch_and : (base left c1 c2 c3 : List Statement) (right : ℕ → List Statement) (blank : Statement) (n : ℕ)
    → c1 ≡ base ++ left → n ≡ length c1 → c2 ≡ c1 ++ blank ∷ [] → c3 ≡ c2 ++ right (length c2)
    → slice_set c3 n (asm.cj (length c3)) ≡ base ++ and_code (length base) left right
patch_and base left c1 c2 c3 right blank n e1 place e2 e3 =
    let s = length base + length left + 1 in
    let l1 = longer c1 base left e1 in
    let whole = put_then c1 c2 c3 blank right s e2 (omega (arith, l1)) e3 in
    let l3 : length c3 ≡ s + length (right s) = omega (arith, l1, longer c3 c1 (blank ∷ right s) whole) in
    written c3 c1 (right s) blank (asm.cj (length c3)) n whole place
    ∙ ap (λ k. c1 ++ asm.cj k ∷ right s) l3
    ∙ ap (λ c. c ++ asm.cj (s + length (right s)) ∷ right s) e1
    ∙ append_assoc base left (asm.cj (s + length (right s)) ∷ right s)

-- the code of an OR
pub patch_or : (base left c1 c2 c3 c4 c5 c6 c7 : List Statement) (right : ℕ
    → List Statement) (blank : Statement) (n : ℕ)
    → c1 ≡ base ++ left → c2 ≡ c1 ++ asm.eqc 0 ∷ [] → n ≡ length c2 → c3 ≡ c2 ++ blank ∷ []
    → c4 ≡ c3 ++ right (length c3) → c5 ≡ c4 ++ asm.eqc 0 ∷ [] → c6 ≡ slice_set c5 n (asm.cj (length c5))
    → c7 ≡ c6 ++ asm.eqc 0 ∷ [] → c7 ≡ base ++ or_code (length base) left right
patch_or base left c1 c2 c3 c4 c5 c6 c7 right blank n e1 e2 place e3 e4 e5 e6 e7 =
    let z = asm.eqc 0 ∷ [] in
    let s = length base + length left + 2 in
    let l1 = longer c1 base left e1 in
    let l2 = longer c2 c1 z e2 in
    let whole4 = put_then c2 c3 c4 blank right s e3 (omega (arith, l1, l2)) e4 in
    let whole : c5 ≡ c2 ++ blank ∷ (right s ++ z) = e5 ∙ ap (λ c. c ++ z) whole4 ∙ append_assoc c2
    (blank ∷ right s) z in
    let l4 = longer c4 c2 (blank ∷ right s) whole4 in
    let l5 : length c5 ≡ s + length (right s) + 1 = omega (arith, l1, l2, l4, longer c5 c4 z e5) in
    let jump = asm.cj (s + length (right s) + 1) in
    let w6 : c6 ≡ c2 ++ jump ∷ (right s ++ z) =
    e6 ∙ written c5 c2 (right s ++ z) blank (asm.cj (length c5)) n whole place
    ∙ ap (λ k. c2 ++ asm.cj k ∷ (right s ++ z)) l5 in
    let all : c7 ≡ (((base ++ left) ++ z) ++ jump ∷ (right s ++ z)) ++ z =
    e7 ∙ ap (λ c. c ++ z) w6 ∙ ap (λ c. (c ++ jump ∷ (right s ++ z)) ++ z) e2
    ∙ ap (λ c. ((c ++ z) ++ jump ∷ (right s ++ z)) ++ z) e1 in
    all ∙ simp append_assoc

-- the end of a loop
pub patch_loop_end : (base c1 c2 c3 : List Statement) (word body n : ℕ) (blank : Statement)
    → c1 ≡ base ++ asm.ldlp word ∷ [] → n ≡ length c1 → c2 ≡ c1 ++ blank ∷ [] → c3 ≡ c2 ++ asm.lend ∷ []
    → slice_set c3 n (Instruction LoadConstant (Difference (length c3) body 0))
    ≡ base ++ loop_end_code (length base) word body
patch_loop_end base c1 c2 c3 word body n blank e1 place e2 e3 =
    let size = λ (k : ℕ). Instruction LoadConstant (Difference k body 0) in
    let whole : c3 ≡ c1 ++ blank ∷ asm.lend ∷ [] =
    e3 ∙ ap (λ c. c ++ asm.lend ∷ []) e2 ∙ append_assoc c1 (blank ∷ []) (asm.lend ∷ []) in
    let l3 : length c3 ≡ length base + 3 =
    omega (arith, longer c1 base (asm.ldlp word ∷ []) e1, longer c3 c1 (blank ∷ asm.lend ∷ []) whole) in
    written c3 c1 (asm.lend ∷ []) blank (size (length c3)) n whole place
    ∙ ap (λ k. c1 ++ size k ∷ asm.lend ∷ []) l3
    ∙ ap (λ c. c ++ size (length base + 3) ∷ asm.lend ∷ []) e1
    ∙ append_assoc base (asm.ldlp word ∷ []) (size (length base + 3) ∷ asm.lend ∷ [])

-- the code of a choice
pub patch_choice : (base test c1 c2 c3 c4 c5 c6 : List Statement) (first second : ℕ
    → List Statement) (blank blank' : Statement)
    (n1 n2 : ℕ)
    → c1 ≡ base ++ test → n1 ≡ length c1 → c2 ≡ c1 ++ blank ∷ [] → c3 ≡ c2 ++ first (length c2) → n2 ≡ length c3
    → c4 ≡ c3 ++ blank' ∷ [] → c5 ≡ slice_set c4 n1 (asm.cj (length c4)) → c6 ≡ c5 ++ second (length c5)
    → slice_set c6 n2 (asm.j (length c6)) ≡ base ++ choice_code (length base) test first second
patch_choice base test c1 c2 c3 c4 c5 c6 first second blank blank' n1 n2 e1 m1 e2 e3 m2 e4 e5 e6 =
    let s = length base + length test + 1 in
    let a = first s in
    let o = s + length a + 1 in
    let b = second o in
    let l1 = longer c1 base test e1 in
    let whole3 = put_then c1 c2 c3 blank first s e2 (omega (arith, l1)) e3 in
    let l3 = longer c3 c1 (blank ∷ a) whole3 in
    let whole4 : c4 ≡ c1 ++ blank ∷ (a ++ blank' ∷ []) =
    e4 ∙ ap (λ c. c ++ blank' ∷ []) whole3 ∙ append_assoc c1 (blank ∷ a) (blank' ∷ []) in
    let l4 : length c4 ≡ o = omega (arith, l1, l3, longer c4 c3 (blank' ∷ []) e4) in
    let jump = asm.cj o in
    let w5 : c5 ≡ c1 ++ jump ∷ (a ++ blank' ∷ []) =
    e5 ∙ written c4 c1 (a ++ blank' ∷ []) blank (asm.cj (length c4)) n1 whole4 m1
    ∙ ap (λ k. c1 ++ asm.cj k ∷ (a ++ blank' ∷ [])) l4 in
    let l5 : length c5 ≡ o =
    omega (arith, l1, longer c5 c1 (jump ∷ (a ++ blank' ∷ [])) w5, length-append a (blank' ∷ [])) in
    let pre = c1 ++ jump ∷ a in
    let whole6 : c6 ≡ pre ++ blank' ∷ b =
    e6 ∙ ap (λ k. c5 ++ second k) l5 ∙ ap (λ c. c ++ b) w5
    ∙ (let flat : (c1 ++ jump ∷ (a ++ blank' ∷ [])) ++ b ≡
    (c1 ++ jump ∷ a) ++ blank' ∷ b = simp append_assoc in flat) in
    let lp = length-append c1 (jump ∷ a) in
    let l6 : length c6 ≡ o + length b = omega (arith, l1, lp, longer c6 pre (blank' ∷ b) whole6) in
    let at : n2 ≡ length pre = omega (arith, m2, l3, lp) in
    written c6 pre b blank' (asm.j (length c6)) n2 whole6 at
    ∙ ap (λ k. pre ++ asm.j k ∷ b) l6
    ∙ ap (λ c. (c ++ jump ∷ a) ++ asm.j (o + length b) ∷ b) e1
    ∙ (let flat : ((base ++ test) ++ jump ∷ a) ++ asm.j (o + length b) ∷ b
    ≡ base ++ (test ++ jump ∷ (a ++ asm.j (o + length b) ∷ b)) = simp append_assoc in flat)

-- the code of a loop
pub patch_loop : (base test c1 c2 c3 c4 : List Statement) (body : ℕ → List Statement) (blank : Statement) (n0 n1 : ℕ)
    → n0 ≡ length base → c1 ≡ base ++ test → n1 ≡ length c1 → c2 ≡ c1 ++ blank ∷ [] → c3 ≡ c2 ++ body (length c2)
    → c4 ≡ c3 ++ asm.j n0 ∷ []
    → slice_set c4 n1 (asm.cj (length c4)) ≡ base ++ loop_code (length base) test body
patch_loop base test c1 c2 c3 c4 body blank n0 n1 m0 e1 m1 e2 e3 e4 =
    let s = length base + length test + 1 in
    let a = body s in
    let l1 = longer c1 base test e1 in
    let whole3 = put_then c1 c2 c3 blank body s e2 (omega (arith, l1)) e3 in
    let back = asm.j (length base) ∷ [] in
    let whole4 : c4 ≡ c1 ++ blank ∷ (a ++ back) =
    e4 ∙ ap (λ k. c3 ++ asm.j k ∷ []) m0 ∙ ap (λ c. c ++ back) whole3 ∙ append_assoc c1 (blank ∷ a) back in
    let l4 : length c4 ≡ s + length a + 1 =
    omega (arith, l1, longer c3 c1 (blank ∷ a) whole3, longer c4 c3 (asm.j n0 ∷ []) e4) in
    written c4 c1 (a ++ back) blank (asm.cj (length c4)) n1 whole4 m1
    ∙ ap (λ k. c1 ++ asm.cj k ∷ (a ++ back)) l4
    ∙ ap (λ c. c ++ asm.cj (s + length a + 1) ∷ (a ++ back)) e1
    ∙ append_assoc base test (asm.cj (s + length a + 1) ∷ (a ++ back))

-- the code of a loop with a count
pub patch_repeat : (base left c1 c2 c3 c4 c5 c6 c7 : List Statement) (count body : ℕ
    → List Statement) (blank : Statement)
    (word n1 n2 : ℕ)
    → c1 ≡ base ++ left → c2 ≡ c1 ++ asm.stl word ∷ [] → c3 ≡ c2 ++ count (length c2)
    → c4 ≡ c3 ++ count_code (word ⊕ 1) → n1 ≡ length c4 → c5 ≡ c4 ++ blank ∷ [] → n2 ≡ length c5
    → c6 ≡ c5 ++ body (length c5) → c7 ≡ c6 ++ loop_end_code (length c6) word n2
    → slice_set c7 n1 (asm.cj (length c7)) ≡ base ++ repeat_code (length base) word left count body
patch_repeat base left c1 c2 c3 c4 c5 c6 c7 count body blank word n1 n2 e1 e2 e3 e4 m1 e5 m2 e6 e7 =
    let counted = length base + length left + 1 in
    let n = count counted in
    let s = counted + length n + 5 in
    let a = body s in
    let z = s + length a in
    let k = count_code (word ⊕ 1) in
    let l1 = longer c1 base left e1 in
    let whole3 = put_then c1 c2 c3 (asm.stl word) count counted e2 (omega (arith, l1)) e3 in
    let l3 = longer c3 c1 (asm.stl word ∷ n) whole3 in
    let l4 = longer c4 c3 k e4 in
    let l5 : length c5 ≡ s = omega (arith, l1, l3, l4, longer c5 c4 (blank ∷ []) e5) in
    let whole6 = put_then c4 c5 c6 blank body s e5 (omega (arith, l1, l3, l4)) e6 in
    let l6 : length c6 ≡ z = omega (arith, l1, l3, l4, longer c6 c4 (blank ∷ a) whole6) in
    let w = loop_end_code z word s in
    let e7' : c7 ≡ c6 ++ w =
    e7 ∙ ap (λ i. c6 ++ loop_end_code (length c6) word i) (m2 ∙ l5) ∙ ap (λ i. c6 ++ loop_end_code i word s) l6 in
    let whole7 : c7 ≡ c4 ++ blank ∷ (a ++ w) = e7' ∙ ap (λ c. c ++ w) whole6 ∙ append_assoc c4 (blank ∷ a) w in
    let l7 : length c7 ≡ z + 3 = omega (arith, l6, longer c7 c6 w e7') in
    let jump = asm.cj (z + 3) in
    let all : slice_set c7 n1 (asm.cj (length c7)) ≡ (((base ++ left) ++ asm.stl word ∷ n) ++ k) ++ jump ∷ (a ++ w) =
    written c7 c4 (a ++ w) blank (asm.cj (length c7)) n1 whole7 m1
    ∙ ap (λ i. c4 ++ asm.cj i ∷ (a ++ w)) l7
    ∙ ap (λ c. c ++ jump ∷ (a ++ w)) e4
    ∙ ap (λ c. (c ++ k) ++ jump ∷ (a ++ w)) whole3
    ∙ ap (λ c. ((c ++ asm.stl word ∷ n) ++ k) ++ jump ∷ (a ++ w)) e1 in
    all ∙ simp append_assoc

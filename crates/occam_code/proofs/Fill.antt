-- What is written into the code before the processes of a PAR or an ALT, once their places are known.
use Rattle.std.proofs.Common.{Box, Global, ◌≡◌, ℕ, ◌+◌, ◌*◌, List, [], ◌∷◌, ◌++◌, Bool, true, false, length, map, refl, sym, ap, ◌∙◌, subst, arith, append_assoc, length-append, length-set}
use Rattle.std.proofs.lemmas.List.{append-nil}
use Rattle.std.specs.Prelude.{◌==◌, flat_map, slice_set, if◌then◌else◌}
use Rattle.node_memory.specs.Words.{◌⊕◌, ◌⊖◌}
use Rattle.t414_assembly.specs.declared.statement.Statement.{Statement}
use Rattle.occam_core.specs.declared.channel.CoreChannel.{CoreChannel}
use Rattle.occam_core.specs.declared.channel.CoreChannel.TheVariants.{Link, Inside, Element}
use Rattle.occam_core.specs.declared.channel.CoreGuard.{CoreGuard}
use Rattle.occam_core.specs.declared.channel.CoreGuard.TheVariants as kind
use Rattle.occam_core.specs.declared.process.CoreProcess.{CoreProcess}
use Rattle.occam_core.specs.declared.process.CoreProcess.TheVariants.{Parallel', Choose'}
use Rattle.occam_code.specs.declared.frame.FrameWords.{FrameWords}
use Rattle.occam_code.specs.Instructions as asm
use Rattle.occam_code.specs.Words.{as_word, is_parallel}
use Rattle.occam_code.specs.Expressions.{code_places}
use Rattle.occam_code.specs.Guards.{after_value, channel_code, value_code, guard_code, after_guard, guards_of, enable_operation, disable_operation, keep_guards, check_code, enables_code, disables_code, before_code, bodies_place, choose_code}
use Rattle.occam_code.specs.Components.{components, words_below, inside, after_component, component_code, component_codes, offsets_of, starts_code, parallel_code}
use Rattle.occam_code.specs.declared.emission.LineMark.{LineMark}
use Rattle.occam_code.specs.Code.{process_code, process_marks, parts_codes, parts_marks, bodies_codes, bodies_marks}
use Rattle.occam_code.specs.Filled.{codes_from, parts_code, bodies_code, marks_from, Replaces, FillsStarts, FillsDisables, has_guards, channel_size, guard_size, disables_size}
use Rattle.occam_code.proofs.Patch.{written, longer}

-- a part is written over, and then those after it
fill_step : (old c1 c2 : List Statement) (start : ℕ) (blank s pointer begin : Statement) (blanks filled code rest :
    List Statement)
    → c1 ≡ slice_set old start s ++ code → Replaces c1 c2 (start + 3) blanks filled rest
    → Replaces old c2 start (blank ∷ pointer ∷ begin ∷ blanks) (s ∷ pointer ∷ begin ∷ filled) (code ++ rest)
fill_step old c1 c2 start blank s pointer begin blanks filled code rest e1 inner pre post is at =
    let whole : slice_set old start s ≡ pre ++ s ∷ pointer ∷ begin ∷ (blanks ++ post) =
    written old pre (pointer ∷ begin ∷ (blanks ++ post)) blank s start is at in
    let before = pre ++ s ∷ pointer ∷ begin ∷ [] in
    let e : c1 ≡ before ++ (blanks ++ (post ++ code)) = e1 ∙ ap (λ l. l ++ code) whole ∙ simp append_assoc in
    let place : start + 3 ≡ length before = omega (arith, at, length-append pre (s ∷ pointer ∷ begin ∷ [])) in
    let flat : before ++ (filled ++ ((post ++ code) ++ rest)) ≡ pre ++ ((s ∷ pointer ∷ begin ∷ filled) ++ (post ++
    (code ++ rest))) =
    simp append_assoc in
    inner before (post ++ code) e place ∙ flat

-- nothing is written
fill_none : (code : List Statement) (start : ℕ) → Replaces code code start [] [] []
fill_none code start pre post is at = is ∙ ap (λ l. pre ++ l) (sym (append-nil post))

-- the starts of a component and of parts have got how far it is to each
abbrev Fills : List Statement → List Statement → ℕ → CoreProcess → List CoreProcess → List (List Statement) → Type 0
Fills old new start p parts codes =
    (below : ℕ) → Replaces old new start (starts_code below (map (λ q. asm.ldc 0) (p ∷ parts)) (p ∷ parts))
    (starts_code below (offsets_of start (code_places 0 (length old) codes)) (p ∷ parts)) (flat_map (λ code. code)
    codes)

-- the length of a code that was written over, with more at its end
pub grown : (old new : List Statement) (start : ℕ) (s : Statement) (code : List Statement)
    → new ≡ slice_set old start s ++ code → length new ≡ length old + length code
grown old new start s code is =
    ap length is ∙ length-append (slice_set old start s) code
    ∙ (let same : length (slice_set old start s) ≡ length old = simp length-set in ap (λ n. n + length code) same)

-- box component, and those after it
pub fill_more : (old c1 c2 : List Statement) (start next : ℕ) (words : FrameWords) (p q others : CoreProcess)
    (box box' : Box (Unit {0}) Global)
    → c1 ≡ slice_set old start (asm.ldc_distance (length old) (start + 3))
    ++ component_code next (process_code (length old) words p)
    → FillsStarts c1 c2 (start + 3) (after_component words p) (next ⊕ words_below p) q others
    → FillsStarts old c2 start words next p (Parallel' box q box' others)
fill_more old c1 c2 start next words p q others box box' e1 fills below =
    let code = component_code next (process_code (length old) words p) in
    let s = asm.ldc_distance (length old) (start + 3) in
    let k = length old + length code in
    let long : length c1 ≡ k = grown old c1 start s code e1 in
    let long' : length c1 ≡ k + 0 = omega (arith, long) in
    let parts = q ∷ components others in
    let next' = next ⊕ words_below p in
    let words' = after_component words p in
    let below' = below ⊕ words_below p in
    let blanks = starts_code below' (map (λ q. asm.ldc 0) parts) parts in
    let filled = λ (i j : ℕ). starts_code below' (offsets_of (start + 3) (code_places 0 j (codes_from i next' words'
    q others))) parts in
    let inner : Replaces c1 c2 (start + 3) blanks (filled k (k + 0)) (parts_code k next' words' q others) =
    subst (λ j. Replaces c1 c2 (start + 3) blanks (filled k j) (parts_code k next' words' q others)) long'
    (subst (λ i. Replaces c1 c2 (start + 3) blanks (filled i (length c1)) (parts_code i next' words' q others)) long
    (fills below')) in
    fill_step old c1 c2 start (asm.ldc 0) s (asm.ldlp (0 ⊖ below)) asm.startp blanks (filled k (k + 0)) code
    (parts_code k next' words' q others) e1 inner

-- the same, by the values that the references have
pub fill_parts : (old c1 c2 : List Statement) (start next below : ℕ) (words others : FrameWords)
    (p q q' last last' whole : CoreProcess) (box box' : Box (Unit {0}) Global)
    → whole ≡ Parallel' box q' box' last' → q ≡ q' → last ≡ last' → others ≡ after_component words p → below ≡
    words_below p
    → c1 ≡ slice_set old start (asm.ldc_distance (length old) (start + 3))
    ++ component_code next (process_code (length old) words p)
    → FillsStarts c1 c2 (start + 3) others (next ⊕ below) q last → FillsStarts old c2 start words next p whole
fill_parts old c1 c2 start next below words others p q q' last last' whole box box' is first rest words_are below_is e1
    fills =
    let fills' : FillsStarts c1 c2 (start + 3) (after_component words p) (next ⊕ words_below p) q last =
    subst (λ i. FillsStarts c1 c2 (start + 3) (after_component words p) (next ⊕ i) q last) below_is
    (subst (λ w. FillsStarts c1 c2 (start + 3) w (next ⊕ below) q last) words_are fills) in
    let whole_is : whole ≡ Parallel' box q box' last =
    is ∙ ap (λ p. Parallel' box p box' last') (sym first) ∙ ap (λ p. Parallel' box q box' p) (sym rest) in
    subst (λ p'. FillsStarts old c2 start words next p p') (sym whole_is)
    (fill_more old c1 c2 start next words p q last box box' e1 fills')

-- the places of lines in a component and those after it
pub marks_parts : (old c1 : List Statement) (m0 m1 m2 : List LineMark) (start next : ℕ) (words others : FrameWords)
    (p q q' last last' whole : CoreProcess) (box box' : Box (Unit {0}) Global)
    → whole ≡ Parallel' box q' box' last' → q ≡ q' → last ≡ last' → others ≡ after_component words p
    → c1 ≡ slice_set old start (asm.ldc_distance (length old) (start + 3))
    ++ component_code next (process_code (length old) words p)
    → m1 ≡ m0 ++ process_marks (length old) words p → m2 ≡ m1 ++ marks_from (length c1) others q last
    → m2 ≡ m0 ++ marks_from (length old) words p whole
marks_parts old c1 m0 m1 m2 start next words others p q q' last last' whole box box' is first rest words_are e1
    first_marks
    marks =
    let code = process_code (length old) words p in
    let k = length old + length code + 2 in
    let long : length c1 ≡ k =
    omega (
      arith,
      grown old c1 start (asm.ldc_distance (length old) (start + 3)) (component_code next code) e1,
      length-append code (asm.ldlp next ∷ asm.endp ∷ []),
    ) in
    let whole_is : whole ≡ Parallel' box q box' last =
    is ∙ ap (λ p. Parallel' box p box' last') (sym first) ∙ ap (λ p. Parallel' box q box' p) (sym rest) in
    let w = after_component words p in
    marks ∙ ap (λ i. m1 ++ marks_from i others q last) long ∙ ap (λ o. m1 ++ marks_from k o q last) words_are
    ∙ ap (λ m. m ++ marks_from k w q last) first_marks
    ∙ append_assoc m0 (process_marks (length old) words p) (marks_from k w q last)
    ∙ ap (λ p'. m0 ++ marks_from (length old) words p p') (sym whole_is)

-- the last two components
fill_two : (old c1 c2 : List Statement) (start next : ℕ) (words : FrameWords) (p q : CoreProcess)
    → c1 ≡ slice_set old start (asm.ldc_distance (length old) (start + 3))
    ++ component_code next (process_code (length old) words p)
    → c2 ≡ slice_set c1 (start + 3) (asm.ldc_distance (length c1) (start + 3 + 3))
    ++ component_code (next ⊕ words_below p) (process_code (length c1) (after_component words p) q)
    → Fills old c2 start p (q ∷ []) (component_codes (length old) next words p (λ i w. process_code i w p)
    (λ i n w. component_code n (process_code i w q) ∷ []))
fill_two old c1 c2 start next words p q e1 e2 below =
    let code = component_code next (process_code (length old) words p) in
    let s = asm.ldc_distance (length old) (start + 3) in
    let k = length old + length code in
    let long : length c1 ≡ k = grown old c1 start s code e1 in
    let long' : length c1 ≡ k + 0 = omega (arith, long) in
    let words' = after_component words p in
    let last = λ (i : ℕ). component_code (next ⊕ words_below p) (process_code i words' q) in
    let s' = λ (i : ℕ). asm.ldc_distance i (start + 3 + 3) in
    let e2' : c2 ≡ slice_set c1 (start + 3) (s' (k + 0)) ++ last k =
    e2 ∙ ap (λ i. slice_set c1 (start + 3) (s' (length c1)) ++ last i) long
    ∙ ap (λ i. slice_set c1 (start + 3) (s' i) ++ last k) long' in
    let x = asm.ldlp (0 ⊖ (below ⊕ words_below p)) in
    fill_step old c1 c2 start (asm.ldc 0) s (asm.ldlp (0 ⊖ below)) asm.startp (asm.ldc 0 ∷ x ∷ asm.startp ∷ [])
    (s' (k + 0) ∷ x ∷ asm.startp ∷ []) code (last k ++ []) e1
    (fill_step c1 c2 c2 (start + 3) (asm.ldc 0) (s' (k + 0)) x asm.startp [] [] (last k) [] e2'
    (fill_none c2 (start + 3 + 3)))

-- the same of all components
pub fill_last : (old c1 c2 : List Statement) (start next : ℕ) (words : FrameWords) (p q : CoreProcess)
    → is_parallel q ≡ false → components q ≡ q ∷ []
    → c1 ≡ slice_set old start (asm.ldc_distance (length old) (start + 3))
    ++ component_code next (process_code (length old) words p)
    → c2 ≡ slice_set c1 (start + 3) (asm.ldc_distance (length c1) (start + 3 + 3))
    ++ component_code (next ⊕ words_below p) (process_code (length c1) (after_component words p) q)
    → FillsStarts old c2 start words next p q
fill_last old c1 c2 start next words p q alone parts e1 e2 =
    let codes = λ (b : Bool). component_codes (length old) next words p (λ i w. process_code i w p)
    (λ i n w. if b then parts_codes i n w q else component_code n (process_code i w q) ∷ []) in
    subst (λ ps. Fills old c2 start p ps (codes (is_parallel q))) (sym parts)
    (subst (λ b. Fills old c2 start p (q ∷ []) (codes b)) (sym alone)
    (fill_two old c1 c2 start next words p q e1 e2))

-- a process that is no PAR is alone
pub is_alone : (p : CoreProcess) → is_parallel p ≡ false → components p ≡ p ∷ []
is_alone (Parallel' box p box' q) alone = absurd (grind arith)
is_alone _ alone = refl

-- the last component's code, by the values that the references have
last_code : (c1 c2 : List Statement) (start next below : ℕ) (words others : FrameWords) (p q : CoreProcess)
    → others ≡ after_component words p → below ≡ words_below p
    → c2 ≡ slice_set c1 (start + 3) (asm.ldc_distance (length c1) (start + 3 + 3))
    ++ component_code (next ⊕ below) (process_code (length c1) others q)
    → c2 ≡ slice_set c1 (start + 3) (asm.ldc_distance (length c1) (start + 3 + 3))
    ++ component_code (next ⊕ words_below p) (process_code (length c1) (after_component words p) q)
last_code c1 c2 start next below words others p q words_are below_is e2 =
    let s = asm.ldc_distance (length c1) (start + 3 + 3) in
    e2 ∙ ap (λ i. slice_set c1 (start + 3) s ++ component_code (next ⊕ i) (process_code (length c1) others q)) below_is
    ∙ ap (λ w. slice_set c1 (start + 3) s ++ component_code (next ⊕ words_below p) (process_code (length c1) w q))
    words_are

-- the last two components, by the values that the references have: their code, its length, and the
-- places of their lines
pub last_parts : (old c1 c2 : List Statement) (start next below : ℕ) (words others : FrameWords) (p q : CoreProcess)
    → is_parallel q ≡ false → others ≡ after_component words p → below ≡ words_below p
    → c1 ≡ slice_set old start (asm.ldc_distance (length old) (start + 3))
    ++ component_code next (process_code (length old) words p)
    → c2 ≡ slice_set c1 (start + 3) (asm.ldc_distance (length c1) (start + 3 + 3))
    ++ component_code (next ⊕ below) (process_code (length c1) others q)
    → FillsStarts old c2 start words next p q
last_parts old c1 c2 start next below words others p q alone words_are below_is e1 e2 =
    fill_last old c1 c2 start next words p q alone (is_alone q alone) e1
    (last_code c1 c2 start next below words others p q words_are below_is e2)

-- the length of the code with the last two components
pub last_length : (old c1 c2 : List Statement) (start next below : ℕ) (words others : FrameWords) (p q : CoreProcess)
    → is_parallel q ≡ false → others ≡ after_component words p → below ≡ words_below p
    → c1 ≡ slice_set old start (asm.ldc_distance (length old) (start + 3))
    ++ component_code next (process_code (length old) words p)
    → c2 ≡ slice_set c1 (start + 3) (asm.ldc_distance (length c1) (start + 3 + 3))
    ++ component_code (next ⊕ below) (process_code (length c1) others q)
    → length c2 ≡ length old + length (parts_code (length old) next words p q)
last_length old c1 c2 start next below words others p q alone words_are below_is e1 e2 =
    let code = component_code next (process_code (length old) words p) in
    let k = length old + length code in
    let long = grown old c1 start (asm.ldc_distance (length old) (start + 3)) code e1 in
    let words' = after_component words p in
    let last = λ (i : ℕ). component_code (next ⊕ words_below p) (process_code i words' q) in
    let whole = last_code c1 c2 start next below words others p q words_are below_is e2 in
    let long' : length c2 ≡ length c1 + length (last k) =
    grown c1 c2 (start + 3) (asm.ldc_distance (length c1) (start + 3 + 3)) (last (length c1)) whole
    ∙ ap (λ i. length c1 + length (last i)) long in
    let codes = λ (b : Bool). flat_map (λ code. code) (if b then parts_codes k (next ⊕ words_below p) words' q
    else last k ∷ []) in
    let rest : length (codes (is_parallel q)) ≡ length (last k) =
    ap (λ b. length (codes b)) alone ∙ ap length (append-nil (last k)) in
    omega (arith, long, long', rest, length-append code (codes (is_parallel q)))

-- the places of lines in the last two components
pub last_marks : (old c1 : List Statement) (m0 m1 m2 : List LineMark) (start next : ℕ) (words others : FrameWords)
    (p q : CoreProcess) → is_parallel q ≡ false → others ≡ after_component words p
    → c1 ≡ slice_set old start (asm.ldc_distance (length old) (start + 3))
    ++ component_code next (process_code (length old) words p)
    → m1 ≡ m0 ++ process_marks (length old) words p → m2 ≡ m1 ++ process_marks (length c1) others q
    → m2 ≡ m0 ++ marks_from (length old) words p q
last_marks old c1 m0 m1 m2 start next words others p q alone words_are e1 first_marks marks =
    let code = process_code (length old) words p in
    let k = length old + length code + 2 in
    let long : length c1 ≡ k =
    omega (
      arith,
      grown old c1 start (asm.ldc_distance (length old) (start + 3)) (component_code next code) e1,
      length-append code (asm.ldlp next ∷ asm.endp ∷ []),
    ) in
    let w = after_component words p in
    let first = process_marks (length old) words p in
    marks ∙ ap (λ i. m1 ++ process_marks i others q) long ∙ ap (λ o. m1 ++ process_marks k o q) words_are
    ∙ ap (λ m. m ++ process_marks k w q) first_marks
    ∙ append_assoc m0 first (process_marks k w q)
    ∙ ap (λ b. m0 ++ (first ++ (if b then parts_marks k w q else process_marks k w q))) (sym alone)

-- the starts are three statements each
pub starts_length : (below : ℕ) (parts : List CoreProcess)
    → length (starts_code below (map (λ q. asm.ldc 0) parts) parts) ≡ 3 * length parts
starts_length below [] = refl
starts_length below (p ∷ parts) = omega (arith, starts_length (below ⊕ words_below p) parts)

-- more at the end
parallel_flat : (base four starts post flat back : List Statement) (way : Statement)
    → (base ++ way ∷ (four ++ (starts ++ (post ++ flat)))) ++ back
    ≡ base ++ way ∷ (four ++ (starts ++ (post ++ (flat ++ back))))
parallel_flat base four starts post flat back way = simp append_assoc

-- the code of a PAR
pub patch_parallel : (base c1 c2 c3 c4 c5 c6 : List Statement) (words others : FrameWords) (p q : CoreProcess)
    (n start count : ℕ) → others ≡ inside words → start ≡ length c1
    → count ≡ as_word (length (p ∷ components q) + 1) → n ≡ length base
    → c1 ≡ base ++ asm.ldc 0 ∷ asm.ldpi ∷ asm.stl words.temporary ∷ asm.ldc count ∷ asm.stl (words.temporary ⊕ 1) ∷ []
    → c2 ≡ c1 ++ starts_code 4 (map (λ q. asm.ldc 0) (p ∷ components q)) (p ∷ components q)
    → c3 ≡ c2 ++ asm.ldlp words.temporary ∷ asm.endp ∷ []
    → FillsStarts c3 c4 start others (words.temporary ⊕ 4) p q
    → length c4 ≡ length c3 + length (parts_code (length c3) (words.temporary ⊕ 4) others p q)
    → c5 ≡ slice_set c4 n (asm.ldc_distance (length c4) (n + 2)) → c6 ≡ c5 ++ asm.ajw (0 ⊖ words.temporary) ∷ []
    → c6 ≡ base ++ parallel_code (length base) words (p ∷ components q)
    (λ k. codes_from k (words.temporary ⊕ 4) (inside words) p q)
patch_parallel base c1 c2 c3 c4 c5 c6 words others p q n start count words_are from counted at e1 e2 e3 filling size
    e5 e6 =
    let next = words.temporary in
    let fills : FillsStarts c3 c4 (length c1) (inside words) (next ⊕ 4) p q =
    subst (λ w. FillsStarts c3 c4 (length c1) w (next ⊕ 4) p q) words_are
    (subst (λ i. FillsStarts c3 c4 i others (next ⊕ 4) p q) from filling) in
    let long : length c4 ≡ length c3 + length (parts_code (length c3) (next ⊕ 4) (inside words) p q) =
    size ∙ ap (λ w. length c3 + length (parts_code (length c3) (next ⊕ 4) w p q)) words_are in
    let parts = p ∷ components q in
    let blanks = starts_code 4 (map (λ q. asm.ldc 0) parts) parts in
    let first = length base + 3 * length parts + 7 in
    let post = asm.ldlp next ∷ asm.endp ∷ [] in
    let flat = λ (j : ℕ). parts_code j (next ⊕ 4) (inside words) p q in
    let filled = λ (i j : ℕ). starts_code 4 (offsets_of i (code_places 0 j (codes_from j (next ⊕ 4) (inside words) p
    q))) parts in
    let joining = λ (i : ℕ). asm.ldpi ∷ asm.stl next ∷ asm.ldc i ∷ asm.stl (next ⊕ 1) ∷ [] in
    let l1 : length c1 ≡ length base + 5 = longer c1 base (asm.ldc 0 ∷ joining count) e1 in
    let l3 : length c3 ≡ first =
    omega (arith, l1, longer c2 c1 blanks e2, longer c3 c2 post e3, starts_length 4 parts) in
    let whole3 : c3 ≡ c1 ++ (blanks ++ post) = e3 ∙ ap (λ c. c ++ post) e2 ∙ append_assoc c1 blanks post in
    let end = filled (length base + 5) first ++ (post ++ flat first) in
    let w4 : c4 ≡ c1 ++ end =
    fills 4 c1 post whole3 refl ∙ ap (λ i. c1 ++ (filled i (length c3) ++ (post ++ flat (length c3)))) l1
    ∙ ap (λ j. c1 ++ (filled (length base + 5) j ++ (post ++ flat j))) l3 in
    let w4' : c4 ≡ base ++ asm.ldc 0 ∷ (joining count ++ end) =
    w4 ∙ ap (λ c. c ++ end) e1 ∙ append_assoc base (asm.ldc 0 ∷ joining count) end in
    let l4 : length c4 ≡ first + length (flat first) = long ∙ ap (λ j. j + length (flat j)) l3 in
    let way = asm.ldc_distance (first + length (flat first)) (length base + 2) in
    let w5 : c5 ≡ base ++ way ∷ (joining count ++ end) =
    e5 ∙ written c4 base (joining count ++ end) (asm.ldc 0) (asm.ldc_distance (length c4) (n + 2)) n w4' at
    ∙ ap (λ j. base ++ asm.ldc_distance j (n + 2) ∷ (joining count ++ end)) l4
    ∙ ap (λ i. base ++ asm.ldc_distance (first + length (flat first)) (i + 2) ∷ (joining count ++ end)) at in
    let back = asm.ajw (0 ⊖ next) ∷ [] in
    e6 ∙ ap (λ c. c ++ back) w5 ∙ ap (λ i. (base ++ way ∷ (joining i ++ end)) ++ back) counted
    ∙ parallel_flat base (joining (as_word (length parts + 1))) (filled (length base + 5) first) post (flat first)
    back way

-- the room for the starts, and the place of the first component
pub starts_fit : (c1 c2 c3 : List Statement) (words : FrameWords) (p q : CoreProcess) (start : ℕ) → start ≡ length c1
    → c2 ≡ c1 ++ starts_code 4 (map (λ q. asm.ldc 0) (p ∷ components q)) (p ∷ components q)
    → c3 ≡ c2 ++ asm.ldlp words.temporary ∷ asm.endp ∷ []
    → length c3 ≡ start + 3 * length (components q) + 5
starts_fit c1 c2 c3 words p q start from e2 e3 =
    let parts = p ∷ components q in
    omega (
      arith,
      from,
      longer c2 c1 (starts_code 4 (map (λ q. asm.ldc 0) parts) parts) e2,
      longer c3 c2 (asm.ldlp words.temporary ∷ asm.endp ∷ []) e3,
      starts_length 4 parts,
    )

-- one statement, or two
link_size : (first : Bool) (number : ℕ)
    → length (asm.mint ∷ (if first then [] else asm.ldnlp number ∷ [])) ≡ (if first then 1 else 2)
link_size true number = refl
link_size false number = refl

-- how long the codes of channels and guards are
channel_sizes : (c : CoreChannel) (words : FrameWords) → length (channel_code words c) ≡ channel_size c
channel_sizes (Link number) words = link_size (number == 0) number
channel_sizes (Inside v) words = refl
channel_sizes (Element array i) words = refl

-- how many statements load the channel and the condition of a guard
pub guard_sizes : (guard : CoreGuard) (words : FrameWords) → length (guard_code words guard) ≡ guard_size guard
guard_sizes (kind.Input e c) words =
    let others = after_value words e in
    omega (arith, channel_sizes c others, length-append (channel_code others c) (value_code words e ∷ []))
guard_sizes (kind.Skip e) words = refl

abbrev blanks_of : List CoreGuard → List Statement
blanks_of gs = map (λ g. asm.ldc 0) gs

-- how long the code is that disables all
pub disables_sizes : (gs : List CoreGuard) (words : FrameWords)
    → length (disables_code words (blanks_of gs) gs) ≡ disables_size gs
disables_sizes [] words = refl
disables_sizes (guard ∷ gs) words =
    let others = disables_code (after_guard words guard) (blanks_of gs) gs in
    omega (
      arith,
      guard_sizes guard words,
      disables_sizes gs (after_guard words guard),
      length-append (guard_code words guard) (asm.ldc 0 ∷ disable_operation guard ∷ others),
    )

-- each guard's code that disables has one statement more than the one that enables
pub disables_length : (gs : List CoreGuard) (words : FrameWords)
    → length (disables_code words (blanks_of gs) gs) ≡ length (enables_code words gs) + length gs
disables_length [] words = refl
disables_length (guard ∷ gs) words =
    let ds = disables_code (after_guard words guard) (blanks_of gs) gs in
    omega (
      arith,
      disables_length gs (after_guard words guard),
      length-append (guard_code words guard) (asm.ldc 0 ∷ disable_operation guard ∷ ds),
      length-append (guard_code words guard) (enable_operation guard ∷ enables_code (after_guard words guard) gs),
    )

-- how far it is to a process is written, and then those after it, and the place of the jump after it
body_step : (old c0 c1 c2 c3 c4 : List Statement) (disables offset n : ℕ) (guard : List Statement)
    (blank s finish jump : Statement) (blanks filled first rest : List Statement)
    → offset ≡ disables + length guard → c0 ≡ slice_set old offset s → c1 ≡ c0 ++ first → n ≡ length c1
    → c2 ≡ c1 ++ jump ∷ [] → Replaces c2 c3 (offset + 2) blanks filled rest → length c3 ≡ length c2 + length rest
    → c4 ≡ slice_set c3 n (asm.j (length c3))
    → Replaces old c4 disables (guard ++ blank ∷ finish ∷ blanks) (guard ++ s ∷ finish ∷ filled)
    (first ++ asm.j (length c3) ∷ rest)
body_step old c0 c1 c2 c3 c4 disables offset n guard blank s finish jump blanks filled first rest at e0 e1 end e2
    inner l3 e4
    pre post is place =
    let left = pre ++ guard in
    let is' : old ≡ left ++ blank ∷ (finish ∷ (blanks ++ post)) = is ∙ simp append_assoc in
    let here : offset ≡ length left = omega (arith, at, place, length-append pre guard) in
    let w0 : c0 ≡ left ++ s ∷ (finish ∷ (blanks ++ post)) =
    e0 ∙ written old left (finish ∷ (blanks ++ post)) blank s offset is' here in
    let before = left ++ s ∷ finish ∷ [] in
    let w2 : c2 ≡ before ++ (blanks ++ (post ++ (first ++ jump ∷ []))) =
    e2 ∙ ap (λ c. c ++ jump ∷ []) (e1 ∙ ap (λ c. c ++ first) w0) ∙ simp append_assoc in
    let w3 = inner before (post ++ (first ++ jump ∷ [])) w2
    (omega (arith, here, length-append left (s ∷ finish ∷ []))) in
    let all = before ++ (filled ++ (post ++ first)) in
    let flat : before ++ (filled ++ ((post ++ (first ++ jump ∷ [])) ++ rest)) ≡ all ++ jump ∷ rest = simp
    append_assoc in
    let w3' : c3 ≡ all ++ jump ∷ rest = w3 ∙ flat in
    let there : n ≡ length all =
    omega (arith, end, l3, longer c2 c1 (jump ∷ []) e2, longer c3 all (jump ∷ rest) w3') in
    let flat' : all ++ asm.j (length c3) ∷ rest
    ≡ pre ++ ((guard ++ s ∷ finish ∷ filled) ++ (post ++ (first ++ asm.j (length c3) ∷ rest))) = simp append_assoc in
    e4 ∙ written c3 all rest jump (asm.j (length c3)) n w3' there ∙ flat'

-- the last process
body_last : (old c0 c1 : List Statement) (disables offset : ℕ) (guard : List Statement)
    (blank s finish : Statement) (first : List Statement)
    → offset ≡ disables + length guard → c0 ≡ slice_set old offset s → c1 ≡ c0 ++ first
    → Replaces old c1 disables (guard ++ blank ∷ finish ∷ []) (guard ++ s ∷ finish ∷ []) first
body_last old c0 c1 disables offset guard blank s finish first at e0 e1 pre post is place =
    let left = pre ++ guard in
    let is' : old ≡ left ++ blank ∷ (finish ∷ post) = is ∙ simp append_assoc in
    let here : offset ≡ length left = omega (arith, at, place, length-append pre guard) in
    let flat : (left ++ s ∷ (finish ∷ post)) ++ first ≡ pre ++ ((guard ++ s ∷ finish ∷ []) ++ (post ++ first)) = simp
    append_assoc in
    e1 ∙ ap (λ c. c ++ first) (e0 ∙ written old left (finish ∷ post) blank s offset is' here) ∙ flat

-- the processes of an ALT from one with others after it
pub fill_body : (old c0 c1 c2 c3 c4 : List Statement) (disables size selected n : ℕ) (words : FrameWords) (jump :
    Statement)
    (guard : CoreGuard) (p q : CoreProcess) (box box' : Box (Unit {0}) Global)
    → has_guards q ≡ true → ((kept : FrameWords) → size ≡ length (guard_code kept guard))
    → c0 ≡ slice_set old (disables + size) (asm.ldc_distance (length old) selected)
    → c1 ≡ c0 ++ process_code (length c0) words p → n ≡ length c1 → c2 ≡ c1 ++ jump ∷ []
    → FillsDisables c2 c3 (disables + size + 2) selected words q
    → length c3 ≡ length c2 + length (bodies_code (length c2) words q) → c4 ≡ slice_set c3 n (asm.j (length c3))
    → FillsDisables old c4 disables selected words (Choose' guard box p box' q)
fill_body old c0 c1 c2 c3 c4 disables size selected n words jump guard p (Choose' g' a' p' b' q') box box' more sizes
    e0 e1 there e2 fills
    l3 e4 =
    let q = Choose' g' a' p' b' q' in
    let k = length old in
    let first = process_code k words p in
    let start = k + length first + 1 in
    let l0 : length c0 ≡ k = ap length e0 ∙ simp length-set in
    let e1' : c1 ≡ c0 ++ first = e1 ∙ ap (λ i. c0 ++ process_code i words p) l0 in
    let l2 : length c2 ≡ start = omega (arith, l0, longer c1 c0 first e1', longer c2 c1 (jump ∷ []) e2) in
    let rest = λ (i : ℕ). bodies_code i words q in
    let l3' : length c3 ≡ length c2 + length (rest start) = l3 ∙ ap (λ i. length c2 + length (rest i)) l2 in
    let end : length c3 ≡ start + length (rest start) = omega (arith, l3', l2) in
    let s = asm.ldc_distance k selected in
    let gs = guards_of q in
    λ kept. let w = after_guard kept guard in
    let blanks = disables_code w (blanks_of gs) gs in
    let filled = λ (i : ℕ). disables_code w
    (map (λ j. asm.ldc_distance j selected) (code_places 1 i (bodies_codes i words q))) gs in
    let inner : Replaces c2 c3 (disables + size + 2) blanks (filled start) (rest start) =
    subst (λ i. Replaces c2 c3 (disables + size + 2) blanks (filled i) (rest i)) l2 (fills w) in
    subst (λ i. Replaces old c4 disables (guard_code kept guard ++ asm.ldc 0 ∷ disable_operation guard ∷ blanks)
    (guard_code kept guard ++ s ∷ disable_operation guard ∷ filled start) (first ++ asm.j i ∷ rest start)) end
    (body_step old c0 c1 c2 c3 c4 disables (disables + size) n (guard_code kept guard) (asm.ldc 0) s
    (disable_operation guard) jump blanks (filled start) first (rest start) (ap (λ i. disables + i) (sizes kept)) e0
    e1' there
    e2 inner l3' e4)
fill_body old c0 c1 c2 c3 c4 disables size selected n words jump guard p _ box box' more sizes e0 e1 there e2 fills
    l3 e4 =
    absurd (grind arith)

-- the same, by the values that the references have
pub fill_bodies : (old c0 c1 c2 c3 c4 : List Statement) (disables size selected n : ℕ) (words : FrameWords)
    (jump : Statement) (guard : CoreGuard) (p p' q q' whole : CoreProcess) (box box' : Box (Unit {0}) Global)
    → whole ≡ Choose' guard box p' box' q' → p ≡ p' → q ≡ q'
    → has_guards q ≡ true → ((kept : FrameWords) → size ≡ length (guard_code kept guard))
    → c0 ≡ slice_set old (disables + size) (asm.ldc_distance (length old) selected)
    → c1 ≡ c0 ++ process_code (length c0) words p → n ≡ length c1 → c2 ≡ c1 ++ jump ∷ []
    → FillsDisables c2 c3 (disables + size + 2) selected words q
    → length c3 ≡ length c2 + length (bodies_code (length c2) words q) → c4 ≡ slice_set c3 n (asm.j (length c3))
    → FillsDisables old c4 disables selected words whole
fill_bodies old c0 c1 c2 c3 c4 disables size selected n words jump guard p p' q q' whole box box' is first rest more
    sizes e0
    e1 there e2 fills l3 e4 =
    let whole_is : whole ≡ Choose' guard box p box' q =
    is ∙ ap (λ p. Choose' guard box p box' q') (sym first) ∙ ap (λ r. Choose' guard box p box' r) (sym rest) in
    subst (λ r. FillsDisables old c4 disables selected words r) (sym whole_is)
    (fill_body old c0 c1 c2 c3 c4 disables size selected n words jump guard p q box box' more sizes e0 e1 there e2
    fills l3
    e4)

-- the last process of an ALT
pub fill_last_body : (old c0 c1 : List Statement) (disables size selected : ℕ) (words : FrameWords)
    (guard : CoreGuard) (p q : CoreProcess) (box box' : Box (Unit {0}) Global)
    → has_guards q ≡ false → ((kept : FrameWords) → size ≡ length (guard_code kept guard))
    → c0 ≡ slice_set old (disables + size) (asm.ldc_distance (length old) selected)
    → c1 ≡ c0 ++ process_code (length c0) words p
    → FillsDisables old c1 disables selected words (Choose' guard box p box' q)
fill_last_body old c0 c1 disables size selected words guard p (Choose' g' a' p' b' q') box box' last sizes e0 e1 =
    absurd (grind arith)
fill_last_body old c0 c1 disables size selected words guard p _ box box' last sizes e0 e1 =
    let first = process_code (length old) words p in
    let l0 : length c0 ≡ length old = ap length e0 ∙ simp length-set in
    let e1' : c1 ≡ c0 ++ first = e1 ∙ ap (λ i. c0 ++ process_code i words p) l0 in
    λ kept. body_last old c0 c1 disables (disables + size) (guard_code kept guard) (asm.ldc 0)
    (asm.ldc_distance (length old) selected) (disable_operation guard) first (ap (λ i. disables + i) (sizes kept)) e0
    e1'

-- the same, by the values that the references have
pub fill_last_of : (old c0 c1 : List Statement) (disables size selected : ℕ) (words : FrameWords)
    (guard : CoreGuard) (p p' q q' whole : CoreProcess) (box box' : Box (Unit {0}) Global)
    → whole ≡ Choose' guard box p' box' q' → p ≡ p' → q ≡ q'
    → has_guards q ≡ false → ((kept : FrameWords) → size ≡ length (guard_code kept guard))
    → c0 ≡ slice_set old (disables + size) (asm.ldc_distance (length old) selected)
    → c1 ≡ c0 ++ process_code (length c0) words p → FillsDisables old c1 disables selected words whole
fill_last_of old c0 c1 disables size selected words guard p p' q q' whole box box' is first rest last sizes e0 e1 =
    let whole_is : whole ≡ Choose' guard box p box' q =
    is ∙ ap (λ p. Choose' guard box p box' q') (sym first) ∙ ap (λ r. Choose' guard box p box' r) (sym rest) in
    subst (λ r. FillsDisables old c1 disables selected words r) (sym whole_is)
    (fill_last_body old c0 c1 disables size selected words guard p q box box' last sizes e0 e1)

-- the code of an ALT, and the place of its first process
pub patch_choose : (base k1 k2 k3 k4 k5 k6 k7 k8 : List Statement) (words : FrameWords) (p : CoreProcess)
    (disables selected : ℕ) → disables ≡ length k5 → selected ≡ length k7
    → k1 ≡ base ++ keep_guards (length base) words (guards_of p)
    → k2 ≡ k1 ++ check_code (length k1) words (guards_of p)
    → k3 ≡ k2 ++ asm.alt ∷ [] → k4 ≡ k3 ++ enables_code words (guards_of p) → k5 ≡ k4 ++ asm.altwt ∷ []
    → k6 ≡ k5 ++ disables_code words (blanks_of (guards_of p)) (guards_of p) → k7 ≡ k6 ++ asm.altend ∷ []
    → (length k7 ≡ bodies_place (length base) words (guards_of p))
    × (FillsDisables k7 k8 disables selected words p
    → k8 ≡ base ++ choose_code (length base) words (guards_of p) (λ k. bodies_codes k words p))
patch_choose base k1 k2 k3 k4 k5 k6 k7 k8 words p disables selected from to e1 e2 e3 e4 e5 e6 e7 =
    let gs = guards_of p in
    let k = length base in
    let keep = keep_guards k words gs in
    let l1 = longer k1 base keep e1 in
    let before = before_code k words gs in
    let check = check_code (k + length keep) words gs in
    let w2 : k2 ≡ base ++ before =
    e2 ∙ ap (λ i. k1 ++ check_code i words gs) l1 ∙ ap (λ c. c ++ check) e1 ∙ append_assoc base keep check in
    let enables = enables_code words gs in
    let blanks = disables_code words (blanks_of gs) gs in
    let end = bodies_place k words gs in
    let l5 = longer k5 k4 (asm.altwt ∷ []) e5 in
    let l7 : length k7 ≡ end =
    omega (
      arith,
      longer k2 base before w2,
      longer k3 k2 (asm.alt ∷ []) e3,
      longer k4 k3 enables e4,
      l5,
      longer k6 k5 blanks e6,
      longer k7 k6 (asm.altend ∷ []) e7,
      disables_length gs words,
    ) in
    let w5 : k5 ≡ base ++ (before ++ asm.alt ∷ (enables ++ asm.altwt ∷ [])) =
    e5 ∙ ap (λ c. c ++ asm.altwt ∷ []) (e4 ∙ ap (λ c. c ++ enables) (e3 ∙ ap (λ c. c ++ asm.alt ∷ []) w2))
    ∙ simp append_assoc in
    let w7 : k7 ≡ k5 ++ (blanks ++ asm.altend ∷ []) =
    e7 ∙ ap (λ c. c ++ asm.altend ∷ []) e6 ∙ append_assoc k5 blanks (asm.altend ∷ []) in
    let filled = λ (i j : ℕ). disables_code words (map (λ n. asm.ldc_distance n j) (code_places 1 i (bodies_codes i
    words p))) gs in
    let whole = λ (i j : ℕ). filled i j ++ (asm.altend ∷ [] ++ bodies_code i words p) in (
      l7,
      λ fills.
          let fills' = subst (λ i. FillsDisables k7 k8 disables i words p) to fills in
          let w8 = fills' words k5 (asm.altend ∷ []) w7 from in
          let flat : (base ++ (before ++ asm.alt ∷ (enables ++ asm.altwt ∷ []))) ++ whole end end
          ≡ base ++ (before ++ asm.alt ∷ (enables ++ asm.altwt ∷ whole end end)) = simp append_assoc in
          w8 ∙ ap (λ i. k5 ++ whole i i) l7 ∙ ap (λ c. c ++ whole end end) w5 ∙ flat,
    )

-- the places of lines, at a place under another name
pub marks_at : (m0 m1 : List LineMark) (words : FrameWords) (p : CoreProcess) (k end : ℕ) → k ≡ end
    → m1 ≡ m0 ++ bodies_marks k words p → m1 ≡ m0 ++ bodies_marks end words p
marks_at m0 m1 words p k end same marks = marks ∙ ap (λ i. m0 ++ bodies_marks i words p) same

-- the same of the components of a PAR
pub parts_marks_at : (m0 m1 : List LineMark) (words others : FrameWords) (p q : CoreProcess) (k end : ℕ) → k ≡ end
    → others ≡ words → m1 ≡ m0 ++ marks_from k others p q → m1 ≡ m0 ++ marks_from end words p q
parts_marks_at m0 m1 words others p q k end same words_are marks =
    marks ∙ ap (λ i. m0 ++ marks_from i others p q) same ∙ ap (λ w. m0 ++ marks_from end w p q) words_are

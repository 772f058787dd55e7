use Rattle.std.proofs.Common.{◌≡◌, ◌+◌, ◌*◌, [], ◌∷◌, ◌++◌, length, sym, ap, ◌∙◌, arith, rules}
use Rattle.std.proofs.lemmas.Result.{on_ok_weaker}
use Rattle.node_memory.specs.Words.{◌⊕◌}
use Rattle.occam_code.specs.Expressions.{expression_code}
use Rattle.occam_code.specs.Code.{choice_code, loop_code, repeat_code, process_code}
use Rattle.occam_code.proofs.Patch.{longer, patch_choice, patch_loop, patch_repeat}
use Rattle.occam_code.specs.Instructions as asm
use Rattle.occam_code.specs.Guards.{guards_of, bodies_place}
use Rattle.occam_code.specs.Components.{components, inside}
use Rattle.occam_code.specs.Filled.{has_guards}
use Rattle.occam_code.proofs.Fill.{fill_parts, marks_parts, last_parts, last_length, last_marks, marks_at, parts_marks_at, patch_parallel, starts_fit, guard_sizes, disables_sizes, fill_bodies, fill_last_of, patch_choose}
use Rattle.occam_code.proofs.processes.+process.Goals as goal

pub emit_process-returns-in_ok-emit_process-in-If-2-clause-code :
    goal.emit_process-returns-in_ok-emit_process-in-If-2-clause-code
emit_process-returns-in_ok-emit_process-in-If-2-clause-code t c =
    let base = c.args.code.now.items in
    let k = length base in
    let t = c.args.words in
    let test = expression_code k t c.in-If.e in
    let first = c.deref-in-If.result.now in
    let second = c.deref-in-If-2.result.now in
    c.land-in-If.ensures
    ∙ patch_choice base test _ _ _ _ _ _ (λ i. process_code i t first) (λ i. process_code i t second) _ _ _ _
    c.in_ok-emit_expression-in-If.ensures.code (c.len-choice.ensures ∙ c.emit_expression-in-If.new.code.ok.0)
    c.in_ok-jump_to-in-If.ensures c.in_ok-emit_process-in-If.ensures.code
    (c.len-first_end.ensures ∙ c.emit_process-in-If.new.code.ok.0) c.in_ok-jump_to-in-If-2.ensures c.land.ensures
    c.in_ok-emit_process-in-If-2.ensures.code
    ∙ ap (λ a. base ++ choice_code k test (λ i. process_code i t a) (λ i. process_code i t second))
    c.deref-in-If.ensures
    ∙ ap (λ b. base ++ choice_code k test (λ i. process_code i t c.in-If.p.value) (λ i. process_code i t b))
    c.deref-in-If-2.ensures
    ∙ ap (λ p. base ++ process_code k t p) (sym c.in-If.is)

pub emit_process-returns-in_ok-jump_to-in-While-2-clause-code :
    goal.emit_process-returns-in_ok-jump_to-in-While-2-clause-code
emit_process-returns-in_ok-jump_to-in-While-2-clause-code t c =
    let base = c.args.code.now.items in
    let k = length base in
    let t = c.args.words in
    let test = expression_code k t c.in-While.e in
    c.land-in-While.ensures
    ∙ patch_loop base test _ _ _ _ (λ i. process_code i t c.deref-in-While.result.now) _ _ _
    (c.len-start.ensures ∙ c.args.code.now.ok.0) c.in_ok-emit_expression-in-While.ensures.code
    (c.len-test_end.ensures ∙ c.emit_expression-in-While.new.code.ok.0) c.in_ok-jump_to-in-While.ensures
    c.in_ok-emit_process-in-While.ensures.code c.in_ok-jump_to-in-While-2.ensures
    ∙ ap (λ a. base ++ loop_code k test (λ i. process_code i t a)) c.deref-in-While.ensures
    ∙ ap (λ p. base ++ process_code k t p) (sym c.in-While.is)

pub emit_process-returns-in_ok-emit_loop_end-in-Repeat-clause-code :
    goal.emit_process-returns-in_ok-emit_loop_end-in-Repeat-clause-code
emit_process-returns-in_ok-emit_loop_end-in-Repeat-clause-code t c =
    let base = c.args.code.now.items in
    let k = length base in
    let t = c.args.words in
    let left = expression_code k t c.in-Repeat.base in
    let index = c.in-Repeat.v ⊕ t.base in
    c.land-in-Repeat.ensures
    ∙ patch_repeat base left _ _ _ _ _ _ _ (λ i. expression_code i t c.in-Repeat.count)
    (λ i. process_code i t c.deref-in-Repeat.result.now) _ index _ _ c.in_ok-emit_expression-in-Repeat.ensures.code
    c.in_ok-put-in-Repeat.ensures c.in_ok-emit_expression-in-Repeat-2.ensures.code
    c.in_ok-emit_count-in-Repeat.ensures (c.len-test_end-in-Repeat.ensures ∙ c.emit_count.new.code.ok.0)
    c.in_ok-jump_to-in-Repeat.ensures (c.len-body.ensures ∙ c.jump_to-in-Repeat.new.code.ok.0)
    c.in_ok-emit_process-in-Repeat.ensures.code c.in_ok-emit_loop_end-in-Repeat.ensures
    ∙ ap
    (λ a. base ++ repeat_code k index left (λ i. expression_code i t c.in-Repeat.count) (λ i. process_code i t a))
    c.deref-in-Repeat.ensures
    ∙ ap (λ p. base ++ process_code k t p) (sym c.in-Repeat.is)

pub emit_bodies-returns-in_ok-emit_bodies-in-Choose-clause-code :
    goal.emit_bodies-returns-in_ok-emit_bodies-in-Choose-clause-code
emit_bodies-returns-in_ok-emit_bodies-in-Choose-clause-code t c =
    fill_bodies c.args.code.now.items _ _ _ _ _ c.args.disables c.guard_length.result c.args.selected c.len-end.result
    c.args.words _ c.in-Choose.guard c.deref.result.now c.in-Choose.first.value c.deref-then-has_guards.result.now
    c.in-Choose.others.value c.args.p.now _ _ c.in-Choose.is c.deref.ensures c.deref-then-has_guards.ensures
    (ap has_guards (c.deref-then-has_guards.ensures ∙ sym c.deref-in-Choose.ensures) ∙ sym c.has_guards.ensures
    ∙ c.if-has_guards.true) (λ w. c.guard_length.ensures.size ∙ sym (guard_sizes c.in-Choose.guard w))
    c.land_from.ensures c.in_ok-emit_process-in-Choose.ensures.code
    (c.len-end.ensures ∙ c.emit_process.new.code.ok.0) c.in_ok-jump_to-in-Choose.ensures
    c.in_ok-emit_bodies-in-Choose.ensures.code c.in_ok-emit_bodies-in-Choose.ensures.length c.land.ensures

pub emit_bodies-returns-else-has_guards-clause-code : goal.emit_bodies-returns-else-has_guards-clause-code
emit_bodies-returns-else-has_guards-clause-code t c =
    fill_last_of c.args.code.now.items _ _ c.args.disables c.guard_length.result c.args.selected c.args.words
    c.in-Choose.guard c.deref.result.now c.in-Choose.first.value c.deref-in-Choose.result.now c.in-Choose.others.value
    c.args.p.now _ _ c.in-Choose.is c.deref.ensures c.deref-in-Choose.ensures
    (sym c.has_guards.ensures ∙ c.if-has_guards.false) (λ w. c.guard_length.ensures.size ∙ sym (guard_sizes
    c.in-Choose.guard w)) c.land_from.ensures
    c.in_ok-emit_process-in-Choose.ensures.code

pub emit_choose-emit_bodies-requires : goal.emit_choose-emit_bodies-requires
emit_choose-emit_bodies-requires t c = (
  search rules,
  omega (
    arith,
    c.len-disables.ensures ∙ c.operate-2.new.code.ok.0,
    longer c.emit_disables.new.code.items c.operate-2.new.code.items _ c.in_ok-emit_disables.ensures,
    disables_sizes (guards_of c.args.p.now) c.args.words,
    longer c.operate-3.new.code.items c.emit_disables.new.code.items _ c.in_ok-operate-3.ensures,
  ),
)

pub emit_choose-returns-clause-code : goal.emit_choose-returns-clause-code
emit_choose-returns-clause-code t c =
    on_ok_weaker c.emit_bodies.result
    (patch_choose c.args.code.now.items _ _ _ _ _ _ _ _ c.args.words c.args.p.now c.len-disables.result
    c.len-selected.result (c.len-disables.ensures ∙ c.operate-2.new.code.ok.0)
    (c.len-selected.ensures ∙ c.operate-3.new.code.ok.0) c.in_ok-keep_guards.ensures c.in_ok-emit_check.ensures
    c.in_ok-operate.ensures c.in_ok-emit_enables.ensures c.in_ok-operate-2.ensures c.in_ok-emit_disables.ensures
    c.in_ok-operate-3.ensures).1
    c.emit_bodies.ensures.code

pub emit_choose-returns-clause-marks : goal.emit_choose-returns-clause-marks
emit_choose-returns-clause-marks t c =
    on_ok_weaker c.emit_bodies.result
    (marks_at c.args.marks.now.items c.emit_bodies.new.marks.items c.args.words c.args.p.now
    (length c.operate-3.new.code.items) (bodies_place (length c.args.code.now.items) c.args.words (guards_of
    c.args.p.now))
    (patch_choose c.args.code.now.items _ _ _ _ _ _ _ c.emit_bodies.new.code.items c.args.words c.args.p.now
    c.len-disables.result c.len-selected.result (c.len-disables.ensures ∙ c.operate-2.new.code.ok.0)
    (c.len-selected.ensures ∙ c.operate-3.new.code.ok.0) c.in_ok-keep_guards.ensures c.in_ok-emit_check.ensures
    c.in_ok-operate.ensures c.in_ok-emit_enables.ensures c.in_ok-operate-2.ensures c.in_ok-emit_disables.ensures
    c.in_ok-operate-3.ensures).0)
    c.emit_bodies.ensures.marks

pub emit_components-returns-in-Parallel-clause-code : goal.emit_components-returns-in-Parallel-clause-code
emit_components-returns-in-Parallel-clause-code t c =
    on_ok_weaker c.emit_components.result
    (fill_parts c.args.code.now.items _ _ c.args.starts c.args.next c.words_below.result c.args.words
    c.after_component-words.result c.args.first.now c.deref.result.now c.in-Parallel.second.value
    c.deref-in-Parallel.result.now c.in-Parallel.others.value c.args.others.now _ _ c.in-Parallel.is c.deref.ensures
    c.deref-in-Parallel.ensures c.after_component-words.ensures c.words_below.ensures
    c.in_ok-emit_component.ensures.code)
    c.emit_components.ensures.code

pub emit_components-returns-in-Parallel-clause-marks : goal.emit_components-returns-in-Parallel-clause-marks
emit_components-returns-in-Parallel-clause-marks t c =
    on_ok_weaker c.emit_components.result
    (marks_parts c.args.code.now.items _ c.args.marks.now.items _ _ c.args.starts c.args.next c.args.words
    c.after_component-words.result c.args.first.now c.deref.result.now c.in-Parallel.second.value
    c.deref-in-Parallel.result.now c.in-Parallel.others.value c.args.others.now _ _ c.in-Parallel.is c.deref.ensures
    c.deref-in-Parallel.ensures c.after_component-words.ensures c.in_ok-emit_component.ensures.code
    c.in_ok-emit_component.ensures.marks)
    c.emit_components.ensures.marks

pub emit_components-returns-in_default-clause-length : goal.emit_components-returns-in_default-clause-length
emit_components-returns-in_default-clause-length t c =
    on_ok_weaker c.emit_component-in_default.result
    (last_length c.args.code.now.items _ _ c.args.starts c.args.next c.words_below.result c.args.words
    c.after_component-words.result c.args.first.now c.args.others.now (search rules) c.after_component-words.ensures
    c.words_below.ensures c.in_ok-emit_component.ensures.code)
    c.emit_component-in_default.ensures.code

pub emit_components-returns-in_default-clause-code : goal.emit_components-returns-in_default-clause-code
emit_components-returns-in_default-clause-code t c =
    on_ok_weaker c.emit_component-in_default.result
    (last_parts c.args.code.now.items _ _ c.args.starts c.args.next c.words_below.result c.args.words
    c.after_component-words.result c.args.first.now c.args.others.now (search rules) c.after_component-words.ensures
    c.words_below.ensures c.in_ok-emit_component.ensures.code)
    c.emit_component-in_default.ensures.code

pub emit_components-returns-in_default-clause-marks : goal.emit_components-returns-in_default-clause-marks
emit_components-returns-in_default-clause-marks t c =
    on_ok_weaker c.emit_component-in_default.result
    (last_marks c.args.code.now.items _ c.args.marks.now.items _ _ c.args.starts c.args.next c.args.words
    c.after_component-words.result c.args.first.now c.args.others.now (search rules) c.after_component-words.ensures
    c.in_ok-emit_component.ensures.code c.in_ok-emit_component.ensures.marks)
    c.emit_component-in_default.ensures.marks

pub emit_parallel-emit_components-requires : goal.emit_parallel-emit_components-requires
emit_parallel-emit_components-requires t c = (
  search rules,
  omega (
    arith,
    starts_fit c.emit_joining.new.code.items _ _ c.args.words c.args.first.now c.args.others.now c.len-starts.result
        (c.len-starts.ensures ∙ c.emit_joining.new.code.ok.0) c.in_ok-emit_starts_of.ensures
        c.in_ok-emit_end.ensures,
  ),
)

pub emit_parallel-returns-clause-code : goal.emit_parallel-returns-clause-code
emit_parallel-returns-clause-code t c =
    on_ok_weaker c.put.result
    (patch_parallel c.args.code.now.items _ _ _ _ _ _ c.args.words c.inside.result c.args.first.now c.args.others.now
    c.len-way_on.result c.len-starts.result c.saturating_add.result c.inside.ensures
    (c.len-starts.ensures ∙ c.emit_joining.new.code.ok.0)
    (omega (arith, c.saturating_add.ensures, c.components_of.ensures))
    (c.len-way_on.ensures ∙ c.args.code.now.ok.0) c.in_ok-emit_joining.ensures c.in_ok-emit_starts_of.ensures
    c.in_ok-emit_end.ensures c.in_ok-emit_components.ensures.code c.in_ok-emit_components.ensures.length
    c.land_from.ensures)
    c.put.ensures

pub emit_parallel-returns-clause-marks : goal.emit_parallel-returns-clause-marks
emit_parallel-returns-clause-marks t c =
    let base = c.args.code.now.items in
    let next = c.args.words.temporary in
    let long =
    starts_fit c.emit_joining.new.code.items _ _ c.args.words c.args.first.now c.args.others.now c.len-starts.result
    (c.len-starts.ensures ∙ c.emit_joining.new.code.ok.0) c.in_ok-emit_starts_of.ensures c.in_ok-emit_end.ensures in
    let joined =
    longer c.emit_joining.new.code.items base
    (asm.ldc 0 ∷ asm.ldpi ∷ asm.stl next ∷ asm.ldc c.saturating_add.result ∷ asm.stl (next ⊕ 1) ∷ [])
    c.in_ok-emit_joining.ensures in
    let start : c.len-starts.result ≡ length c.emit_joining.new.code.items =
    c.len-starts.ensures ∙ c.emit_joining.new.code.ok.0 in
    on_ok_weaker c.put.result
    (λ _. parts_marks_at c.args.marks.now.items c.emit_components.new.marks.items (inside c.args.words) c.inside.result
    c.args.first.now c.args.others.now (length c.emit_end.new.code.items)
    (length base + 3 * length (components c.args.others.now) + 10) (omega (arith, long, joined, start)) c.inside.ensures
    c.in_ok-emit_components.ensures.marks)
    c.put.ensures

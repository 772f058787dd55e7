use Rattle.std.proofs.Common.{◌≡◌, ◌+◌, ℕ, IfSome, slice_get, length, ◌==◌, sym, subst, ap, ◌∙◌}
use Rattle.script_text.specs.Lines.{IsLine}
use Rattle.t414_assembly.proofs.Wrong.{are_faults, is_one_fault, has_line}
use Rattle.t414_assembly.proofs.assembling.assemble_or_list.Goals as goal

pub returns-then-not-is_empty-clause-faults : goal.returns-then-not-is_empty-clause-faults
returns-then-not-is_empty-clause-faults c =
    are_faults c.args.text.now c.as_slice-source.result.now _ _
    (subst (λ lines. (k : ℕ) → IfSome (slice_get lines k) (λ line. IsLine c.args.text.now k line.text.now))
    (sym c.as_slice-source.ensures.value) c.in_ok-source.ensures.lines)
    (subst (λ lines. (k : ℕ) → IfSome (slice_get lines k) (λ line. line.number ≡ k + 1))
    (sym c.as_slice-source.ensures.value) c.in_ok-source.ensures.numbers)
    c.in_ok-list.ensures.first c.in_ok-list.ensures.more
    (ap (λ faults. length faults == 0) (sym c.as_slice-2.ensures.value) ∙ sym c.is_empty.ensures
    ∙ c.if-not-is_empty.true)

pub returns-in-Err-TooLong-clause-faults : goal.returns-in-Err-TooLong-clause-faults
returns-in-Err-TooLong-clause-faults c =
    is_one_fault c.args.text.now c.line_of-line.result.number _
    (has_line c.args.text.now c.as_slice-source.result.now _
    (subst (λ lines. (k : ℕ) → IfSome (slice_get lines k) (λ line. IsLine c.args.text.now k line.text.now))
    (sym c.as_slice-source.ensures.value) c.in_ok-source.ensures.lines)
    (subst (λ lines. (k : ℕ) → IfSome (slice_get lines k) (λ line. line.number ≡ k + 1))
    (sym c.as_slice-source.ensures.value) c.in_ok-source.ensures.numbers)
    c.line_of-line.ensures)
    c.in_ok-list-in-Err-TooLong.ensures.first c.in_ok-list-in-Err-TooLong.ensures.more

use Rattle.std.proofs.Common.{◌≡◌, ◌≢◌, ◌++◌, ◌-◌, [], suc, zero, length, take, refl, sym, ap, ◌∙◌, inl, inr, arith}
use Rattle.std.proofs.lemmas.Bool.Decides.{Decides-eqb, not_from_Decides}
use Rattle.std.proofs.lemmas.Slice.Eq.{slice_eq-Decides}
use Rattle.script_text.specs.Lines.{line_of, after_line, from_line}
use Rattle.script_text.proofs.LineLemmas.{none_through, none_at_all, is_empty, is_not_empty, text_before, before_rest}
use Rattle.script_text.proofs.lines.divide.Goals as goal

pub loop-mark-init : goal.loop-mark-init
loop-mark-init c =
    record { number = zero; before = []; here = refl; parts = refl; none = λ other lt. absurd (omega (arith, lt)) }

pub returns-then-eq : goal.returns-then-eq
returns-then-eq c =
    let inv = c.loop-mark.invariant in
    let text = c.args.text.now in
    let rest = c.loop-mark.rest.now in
    let decides = slice_eq-Decides Decides-eqb _ _ _ c.eq.ensures in
    let is_there : from_line inv.number text ≢ [] = λ e. is_not_empty rest c.loop-mark-test.ensures (inv.here ∙ e) in
    let is_mark = ap line_of (sym inv.here) ∙ sym c.split_line.ensures.line ∙ decides.0 c.if-eq.true in
    let front =
    before_rest text inv.before rest inv.parts ∙ ap (λ xs. take (length text - length rest) text ++ xs) inv.here in
    inl (inv.number, ((is_there, is_mark), inv.none), front, c.split_line.ensures.rest ∙ ap after_line inv.here)

pub loop-mark-preserved : goal.loop-mark-preserved
loop-mark-preserved c =
    let inv = c.loop-mark.invariant in
    let text = c.args.text.now in
    let decides = slice_eq-Decides Decides-eqb _ _ _ c.eq.ensures in
    let longer = text_before text inv.before c.loop-mark.rest.now inv.parts in
    let differs : ¬ (line_of (from_line inv.number text) ≡ c.args.mark.now) =
    λ e. not_from_Decides _ decides c.if-eq.false (c.split_line.ensures.line ∙ ap line_of inv.here ∙ e) in
    record {
      number = suc inv.number;
      before = longer.0;
      here = c.split_line.ensures.rest ∙ ap after_line inv.here;
      parts = longer.1 ∙ ap (λ xs. longer.0 ++ xs) (sym c.split_line.ensures.rest);
      none = none_through text c.args.mark.now inv.number inv.none differs;
    }

pub returns : goal.returns
returns c =
    let inv = c.loop-mark.invariant in
    let none = sym inv.here ∙ is_empty c.loop-mark.rest.now c.loop-mark-test.ensures in
    inr (none_at_all c.args.text.now c.args.mark.now inv.number none inv.none, refl, refl)

use Rattle.std.proofs.Common.{◌≡◌, ◌≢◌, ◌∙◌, ap, sym, subst, Some}
use Rattle.std.proofs.lemmas.Bool.Decides.{Decides-eqb, not_from_Decides}
use Rattle.std.proofs.lemmas.List.{take_all}
use Rattle.std.proofs.lemmas.List.Elements.{All-more}
use Rattle.std.proofs.lemmas.Option.{slice_get-get_or}
use Rattle.std.proofs.lemmas.Slice.Eq.{slice_eq-Decides}
use Rattle.script_text.specs.Names.{NamesNothing}
use Rattle.script_text.proofs.names.value_named.Goals as goal

pub returns-then-eq-clause-value : goal.returns-then-eq-clause-value
returns-then-eq-clause-value g c =
    let decides = slice_eq-Decides Decides-eqb _ _ _ c.eq.ensures in
    let at = slice_get-get_or c.args.table.now c.loop-entry.entry-index c.entry-item.result c.loop-entry-test.true in
    record {
      place = c.loop-entry.entry-index;
      text = c.entry-item.result.0;
      entry = at ∙ ap Some (sym c.entry-item.is);
      named = decides.0 c.if-eq.true;
    }

pub loop-entry-preserved : goal.loop-entry-preserved
loop-entry-preserved g c =
    let decides = slice_eq-Decides Decides-eqb _ _ _ c.eq.ensures in
    All-more (λ entry. entry.0.now ≢ c.args.name.now) c.args.table.now c.loop-entry.entry-index c.entry-item.result
    c.loop-entry-test.true c.loop-entry.invariant
    (subst (λ entry. entry.0.now ≢ c.args.name.now) c.entry-item.is (not_from_Decides _ decides c.if-eq.false))

pub returns-clause-none : goal.returns-clause-none
returns-clause-none g c = λ none.
    subst (λ entries. NamesNothing entries c.args.name.now)
    (take_all c.loop-entry.entry-index c.args.table.now c.loop-entry-test.false) c.loop-entry.invariant

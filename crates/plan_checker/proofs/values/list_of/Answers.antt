use Rattle.std.proofs.lemmas.Result.{err_from_is_err_and}
use Rattle.std.proofs.lemmas.List.Elements.{All-push}
use Rattle.toml.specs.View.{view, items_view}
use Rattle.plan_checker.proofs.DocumentLemmas.{array_is, no_list, list_fault, spells_more}
use Rattle.plan_checker.proofs.DocumentLemmas.{spells_none, spells_all}
use Rattle.plan_checker.proofs.values.list_of.Goals as goal

pub returns-in_default : goal.returns-in_default
returns-in_default g c = λ xs whole. no_list (g.T.FromValue.spelling c.args.version) _ xs c.in_default.ensures

pub returns-in_err-from_value : goal.returns-in_err-from_value
returns-in_err-from_value g c =
    let p = err_from_is_err_and c.from_residual-in_err-from_value.result c.from_residual-in_err-from_value.ensures.1 in
    let is =
    array_is (view c.args.value.now) (items_view c.deref-value-items.result.now)
    (rw c.deref-value-items.ensures.value c.in-Some.ensures) in
    rw (p.1, p.2)
    (list_fault (g.T.FromValue.is_whole c.args.version) (g.T.FromValue.spelling c.args.version) (view c.args.value.now)
    c.deref-value-items.result.now c.loop-value.value-index c.value-item.result c.in_err-from_value.field-0.0 is
    c.loop-value-test.true c.value-item.is c.in_err-from_value.ensures)

pub loop-value-init : goal.loop-value-init
loop-value-init g c =
    spells_none (g.T.FromValue.is_whole c.args.version) (g.T.FromValue.spelling c.args.version)
    c.in_ok-items.items.items c.in_ok-items.ensures.items

pub loop-value-preserved : goal.loop-value-preserved
loop-value-preserved g c =
    rw c.in_ok-push.ensures.items (
      spells_more (g.T.FromValue.spelling c.args.version) c.deref-value-items.result.now c.loop-value.value-index
          c.value-item.result c.loop-value.items.items c.in_ok-from_value.field-0 c.loop-value-test.true c.value-item.is
          c.in_ok-from_value.ensures.0 c.loop-value.invariant.0,
      All-push (g.T.FromValue.is_whole c.args.version) c.loop-value.items.items c.in_ok-from_value.field-0
          c.loop-value.invariant.1 c.in_ok-from_value.ensures.1,
    )

pub returns : goal.returns
returns g c =
    let is =
    array_is (view c.args.value.now) (items_view c.deref-value-items.result.now)
    (rw c.deref-value-items.ensures.value c.in-Some.ensures) in (
      spells_all (g.T.FromValue.spelling c.args.version) (view c.args.value.now) c.deref-value-items.result.now
          c.loop-value.value-index c.loop-value.items.items is c.loop-value-test.false c.loop-value.invariant.0,
      c.loop-value.invariant.1,
    )

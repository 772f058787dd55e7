use Rattle.std.proofs.Common.{◌≡◌, [], ◌∷◌, length, rules, refl, codes, Some, w64, SFits, to_z, of_z}
use Rattle.std.proofs.lemmas.Int.{to_z-of_z}
use Rattle.toml.specs.Data.{integer, get_member}
use Rattle.toml.specs.View.{table_view}
use Rattle.plan_rules.specs.declared.plan.RangePlan.{RangePlan}
use Rattle.plan_checker.specs.Document.{first_of, last_of}
use Rattle.plan_checker.proofs.DocumentLemmas.{only_item}
use Rattle.plan_checker.proofs.read.only_range.Goals as goal

pub returns : goal.returns
returns c =
    let first : SFits w64 c.in_ok-first.first = search rules in
    let last : SFits w64 c.in_ok-last.last = search rules in
    let ends : get_member (codes "first") (table_view c.args.table.now)
    ∷ get_member (codes "last") (table_view c.args.table.now) ∷ []
    ≡ Some (integer (to_z w64 (of_z w64 c.in_ok-first.first)))
    ∷ Some (integer (to_z w64 (of_z w64 c.in_ok-last.last))) ∷ [] =
    rw (to_z-of_z w64 _ first, to_z-of_z w64 _ last, c.in_ok-first.ensures.0, c.in_ok-last.ensures.0) refl in
    only_item {Y = RangePlan} (λ rs. length rs ≡ 1)
    (λ rs. Some (integer (first_of rs)) ∷ Some (integer (last_of rs)) ∷ []) _ _ _ ends refl c.list_of_one.ensures

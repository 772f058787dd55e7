use Rattle.std.proofs.Common.{◌≡◌, map, take, All}
use Rattle.toml.specs.View.{items_of, items_view}
use Rattle.plan_checker.proofs.values.list_of.Given as goal

-- the values so far spell the items so far
abbrev pub invariant-loop-value : goal.invariant-loop-value
invariant-loop-value g l =
    (items_view (take l.value-index l.value-items) ≡ items_of (map (g.T.FromValue.spelling l.version) l.items.items))
    × All (g.T.FromValue.is_whole l.version) l.items.items

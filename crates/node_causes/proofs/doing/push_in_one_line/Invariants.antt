use Rattle.std.proofs.Common.{◌≡◌, ◌++◌, map, string_bytes}
use Rattle.std.specs.List.{flat_map}
use Rattle.node_causes.proofs.doing.push_in_one_line.Given as goal

-- the lines so far are there
abbrev pub invariant-loop-line : goal.invariant-loop-line
invariant-loop-line l =
    string_bytes l.text ≡ string_bytes l.initial.text ++ flat_map (λ line. line) (map (λ line. line.now) l.yielded)

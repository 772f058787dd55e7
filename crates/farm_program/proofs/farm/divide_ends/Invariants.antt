use Rattle.std.proofs.Common.{◌≡◌, map, string_bytes}
use Rattle.farm_program.proofs.farm.divide_ends.Given as goal

-- what the users so far leave
abbrev pub invariant-loop-end : goal.invariant-loop-end
invariant-loop-end l =
    (l.passes.items ≡ map (λ e. e.pass) l.yielded)
    × (map string_bytes l.screens.items ≡ map (λ e. string_bytes e.screen) l.yielded)

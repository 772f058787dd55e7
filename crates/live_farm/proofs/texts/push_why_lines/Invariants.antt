use Rattle.std.proofs.Common.{◌≡◌, ◌++◌, map, string_bytes}
use Rattle.std.specs.List.{flat_map}
use Rattle.live_farm.specs.LiveTexts.{why_line}
use Rattle.live_farm.proofs.texts.push_why_lines.Given as goal

-- the lines so far are there
abbrev pub invariant-loop-line : goal.invariant-loop-line
invariant-loop-line l =
    string_bytes l.text ≡ string_bytes l.initial.text ++ flat_map (why_line l.name) (map (λ line. line.now) l.yielded)

use Rattle.std.proofs.Common.{◌≡◌, ◌++◌, ◌-◌}
use Rattle.std.specs.List.{range_with_len}
use Rattle.crossbar.proofs.numbering.Numbering.append_range.Given as goal

abbrev pub invariant-loop-port : goal.invariant-loop-port
invariant-loop-port l = l.self ≡ l.fn.self ++ range_with_len l.fn.range.first (l.port - l.fn.range.first)

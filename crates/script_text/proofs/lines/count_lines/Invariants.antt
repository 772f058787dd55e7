use Rattle.std.proofs.Common.{◌≡◌, ◌≤◌, length, take}
use Rattle.std.specs.List.{filter}
use Rattle.script_text.specs.Lines.{is_line_feed}
use Rattle.script_text.proofs.lines.count_lines.Given as goal

abbrev pub invariant-loop-byte : goal.invariant-loop-byte
invariant-loop-byte l =
    (l.count ≡ length (filter is_line_feed (take l.byte-index l.text))) × (l.count ≤ l.byte-index)

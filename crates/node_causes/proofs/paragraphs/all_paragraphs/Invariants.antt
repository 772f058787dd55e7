use Rattle.std.proofs.Common.{take, string_bytes}
use Rattle.node_causes.specs.Explained.{AreOfNodes}
use Rattle.node_causes.proofs.paragraphs.all_paragraphs.Given as goal

-- a paragraph of each node so far
abbrev pub invariant-loop-number : goal.invariant-loop-number
invariant-loop-number l = AreOfNodes 0 (take l.number l.fn.replayed.machine.devices.nodes) (string_bytes l.text)

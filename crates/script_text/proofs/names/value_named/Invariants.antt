use Rattle.std.proofs.Common.{take}
use Rattle.script_text.specs.Names.{NamesNothing}
use Rattle.script_text.proofs.names.value_named.Given as goal

-- no entry so far has the name
abbrev pub invariant-loop-entry : goal.invariant-loop-entry
invariant-loop-entry g l = NamesNothing (take l.entry-index l.table) l.name

use Rattle.std.proofs.Common.{◌≡◌, ◌≤◌, ◌++◌, take, vec_capacity}
use Rattle.domain_core.specs.Journal.{expanded}
use Rattle.farm_service.specs.Commands.{commands_of}
use Rattle.farm_service.proofs.histories.list_commands.Given as goal

-- the commands so far are listed, and there is no less memory
abbrev pub invariant-loop-index : goal.invariant-loop-index
invariant-loop-index l = record {
  listed : l.told.items ≡ l.fn.told.items ++ commands_of l.user (expanded (take l.index l.journal.entries));
  capacity : vec_capacity l.fn.told ≤ vec_capacity l.told;
}

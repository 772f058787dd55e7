use Rattle.std.proofs.Common.{◌≡◌, ◌≤◌, ◌++◌, take, length}
use Rattle.domain_core.specs.Journal.{expanded}
use Rattle.farm_service.specs.Commands.{commands_of}
use Rattle.farm_service.proofs.session.Session.listed_after.Given as goal

-- the list goes on with the commands of the entries so far
abbrev pub invariant-loop-entry : goal.invariant-loop-entry
invariant-loop-entry l = record {
  so_far : take l.after l.told ≡ take l.listed l.told ++ commands_of l.user (expanded (take l.entry-index l.entries));
  within : l.after ≤ length l.told;
}

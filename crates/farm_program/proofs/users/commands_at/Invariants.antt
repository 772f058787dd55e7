use Rattle.std.proofs.Common.{◌≡◌, Bor, map, take}
use Rattle.script_lines.specs.declared.command.Command.{Command}
use Rattle.farm_program.specs.Users.{commands_at}
use Rattle.farm_program.proofs.users.commands_at.Given as goal

-- the commands of the lines so far
abbrev pub invariant-loop-line : goal.invariant-loop-line
invariant-loop-line l =
    map {A = Bor Command} {B = Command} (λ c. c.now) l.commands.items ≡ commands_at (take l.line-index l.lines) l.place

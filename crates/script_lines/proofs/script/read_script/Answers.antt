use Rattle.std.proofs.Common.{◌≡◌, ◌<◌, ◌++◌, ◌∷◌, [], length, rules, arith}
use Rattle.script_lines.proofs.Readings.{read_past, read_more, read_wrong, users_named}
use Rattle.script_lines.proofs.script.read_script.Goals as goal

pub overflow_add-number : goal.overflow_add-number
overflow_add-number c = search rules

pub loop-rest-preserved-then-is_passed_over : goal.loop-rest-preserved-then-is_passed_over
loop-rest-preserved-then-is_passed_over c =
    let inv = c.loop-rest.invariant in
    let rest = c.loop-rest.rest.now in
    let some : 0 < length rest = search rules in (
      read_past _ _ rest _ _ _ inv.0 some (search rules) c.split_line.ensures.rest,
      omega (arith, inv.1, c.split_line.ensures.shorter some),
    )

pub loop-rest-preserved : goal.loop-rest-preserved
loop-rest-preserved c =
    let inv = c.loop-rest.invariant in
    let rest = c.loop-rest.rest.now in
    let some : 0 < length rest = search rules in
    let items : c.push.new.self.items ≡ c.loop-rest.asked.items ++ c.in-Ok.line ∷ [] = search rules in (
      read_more _ _ rest _ _ _ c.in-Ok.line _ inv.0 some (search rules) (search rules) c.split_line.ensures.rest items,
      omega (arith, inv.1, c.split_line.ensures.shorter some),
    )

pub returns-in-Err-Faulty-clause-fault : goal.returns-in-Err-Faulty-clause-fault
returns-in-Err-Faulty-clause-fault c =
    let inv = c.loop-rest.invariant in
    let rest = c.loop-rest.rest.now in
    read_wrong _ _ rest _ _ _ inv.0 (search rules) (search rules) (search rules)

pub returns-clause-users : goal.returns-clause-users
returns-clause-users c =
    let inv = c.loop-rest.invariant in
    users_named c.args.names.now _ _ inv.0.readable

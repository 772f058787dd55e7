use Rattle.std.proofs.Common.{arith, rules}
use Rattle.bootstrap.proofs.Resting.{quiet-runs}
use Rattle.bootstrap.proofs.node.Node.quiet.Goals as goal
use Rattle.bootstrap.proofs.node.Node.quiet.Goals.{then-not-cpu, else-not-cpu}

pub returns-then-cpu : goal.returns-then-cpu
returns-then-cpu c =
    let v = c.if-cpu.true in
    let work = c.has_work.ensures.answer in
    rw (quiet-runs c.idle_where_it_rests.ensures.law c.args.self.now c.in-Runs.cpu c.in-Runs.is)
    (elim c.if-not-cpu.branch [
      | then-not-cpu w ↦ (let a = w.if-not-cpu in let b = w.value-is in grind (arith, rules))
      | else-not-cpu w ↦ (let a = w.if-not-cpu in let b = w.value-is in grind (arith, rules))
    ])

pub returns-else-cpu : goal.returns-else-cpu
returns-else-cpu c =
    let v = c.if-cpu.false in
    rw (quiet-runs c.idle_where_it_rests.ensures.law c.args.self.now c.in-Runs.cpu c.in-Runs.is)
    (elim c.if-not-cpu.branch [
      | then-not-cpu w ↦ (let a = w.if-not-cpu in let b = w.value-is in grind (arith, rules))
      | else-not-cpu w ↦ (let a = w.if-not-cpu in let b = w.value-is in grind (arith, rules))
    ])

use Rattle.std.proofs.Common.{◌≡◌, rules, Some, Err}
use Rattle.node_memory.specs.declared.fault.Fault.TheVariants.{OutsideMemory}
use Rattle.node_memory.specs.Effect.{Gave, Halted}
use Rattle.process_queue.specs.Queue.{after_take}
use Rattle.process_queue.proofs.Lists.{stands-take, take-inside, take-outside}
use Rattle.process_queue.proofs.queue.Queue.take.Goals as goal

pub returns-in_err-self-clause-first : goal.returns-in_err-self-clause-first
unfolding after_take
returns-in_err-self-clause-first c = λ ws s.
    let q = c.args.self.now in
    let t = stands-take ws q c.args.memory.now s in
    let e : after_take q c.args.memory.now ≡ Halted c.in_err-self.field-0.0 q c.args.memory.now = search rules in
    cc

pub returns-clause-others : goal.returns-clause-others
unfolding after_take
returns-clause-others c = λ ws s.
    let q = c.args.self.now in
    let t = stands-take ws q c.args.memory.now s in
    let e : after_take q c.args.memory.now
    ≡ Gave (Some q.front) (record { front = c.if-workspace-self.self; back = q.back }) c.args.memory.now =
    search rules in
    let f : t.0 ≡ record { front = c.if-workspace-self.self; back = q.back } = cc in
    rw (← f) t.2

pub returns-in_err-self-clause-outside : goal.returns-in_err-self-clause-outside
unfolding after_take
returns-in_err-self-clause-outside c =
    let q = c.args.self.now in
    let e : after_take q c.args.memory.now ≡ Halted c.in_err-self.field-0.0 q c.args.memory.now = search rules in
    let p = take-outside q q c.args.memory.now _ _ e in
    let is : c.from_residual.result ≡ Err OutsideMemory = search rules in
    (λ h. (p.1, p.2, p.3), λ h. is)

pub returns-clause-outside : goal.returns-clause-outside
unfolding after_take
returns-clause-outside c =
    let q = c.args.self.now in
    let e : after_take q c.args.memory.now
    ≡ Gave (Some q.front) (record { front = c.if-workspace-self.self; back = q.back }) c.args.memory.now =
    search rules in
    (λ h. cc, λ h. absurd (take-inside q _ c.args.memory.now _ _ e h.0 h.1 h.2))

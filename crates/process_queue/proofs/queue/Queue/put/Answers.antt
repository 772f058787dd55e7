use Rattle.std.proofs.Common.{◌≡◌, rules, Err}
use Rattle.node_memory.specs.declared.fault.Fault.TheVariants.{OutsideMemory}
use Rattle.node_memory.specs.Effect.{Gave, Halted}
use Rattle.process_queue.specs.Queue.{after_put}
use Rattle.process_queue.proofs.Lists.{stands-put, put-inside, put-outside}
use Rattle.process_queue.proofs.queue.Queue.put.Goals as goal

pub returns-clause-list : goal.returns-clause-list
unfolding after_put
returns-clause-list c = λ ws s p a.
    let q = c.args.self.now in
    let e : after_put q c.args.memory.now c.args.workspace
    ≡ Gave tt (record { front = c.if-self.self.front; back = c.args.workspace }) c.if-self.memory =
    search rules in
    stands-put c.written_words_are_read.ensures.read c.written_words_are_read.ensures.others ws q _ c.args.memory.now
    c.if-self.memory c.args.workspace e s p a

pub returns-clause-outside : goal.returns-clause-outside
unfolding after_put
returns-clause-outside c =
    let q = c.args.self.now in
    let e : after_put q c.args.memory.now c.args.workspace
    ≡ Gave tt (record { front = c.if-self.self.front; back = c.args.workspace }) c.if-self.memory =
    search rules in (
      λ h. cc,
      λ h.
          absurd (put-inside c.written_words_are_read.ensures.faults q _ c.args.memory.now c.if-self.memory
          c.args.workspace e
          h.0 h.1),
    )

pub returns-in_err-set_word-clause-outside : goal.returns-in_err-set_word-clause-outside
unfolding after_put
returns-in_err-set_word-clause-outside c =
    let q = c.args.self.now in
    let e : after_put q c.args.memory.now c.args.workspace ≡ Halted c.in_err-set_word.field-0.0 q c.args.memory.now =
    search rules in
    let p =
    put-outside c.written_words_are_read.ensures.faults q q c.args.memory.now c.args.memory.now c.args.workspace _ e in
    let is : c.from_residual.result ≡ Err OutsideMemory = search rules in
    (λ h. (p.1, p.2), λ h. is)

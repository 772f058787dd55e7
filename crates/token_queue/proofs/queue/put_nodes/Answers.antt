use Rattle.std.proofs.Common.{◌≡◌, ◌+◌, refl, arith, ap, ◌∙◌}
use Rattle.token_queue.specs.Rules.{known_of}
use Rattle.token_queue.specs.Tokens.{tokens_of_nodes, weigh}
use Rattle.token_queue.proofs.Counts.{still_held, one_node_more}
use Rattle.token_queue.proofs.queue.put_nodes.Goals as goal

pub loop-node-init : goal.loop-node-init
loop-node-init g c = ((refl, refl, refl), refl, refl, λ h. omega arith)

pub put-requires-clause-queue : goal.put-requires-clause-queue
put-requires-clause-queue g c =
    let i = c.loop-node.invariant in
    let q = c.requires.queue in ((i.0.0 ∙ q.0.0, i.0.2 ∙ q.0.1), q.1)

pub put-requires-clause-parts : goal.put-requires-clause-parts
put-requires-clause-parts g c = rw c.loop-node.invariant.1 c.requires.parts

pub put-requires-clause-held : goal.put-requires-clause-held
put-requires-clause-held g c =
    let i = c.loop-node.invariant in
    still_held (known_of c.args.pass.now).held (known_of c.loop-node.pass).held c.args.domain c.loop-node.node i.3
    (c.requires.held c.loop-node.node c.loop-node-test.true)

pub loop-node-preserved : goal.loop-node-preserved
loop-node-preserved g c =
    let i = c.loop-node.invariant in
    let s = c.put.ensures.queue in
    let e = c.put.ensures.held in
    let more =
    one_node_more (known_of c.args.pass.now).held (known_of c.loop-node.pass).held c.args.domain c.loop-node.node i.3
    (still_held (known_of c.args.pass.now).held (known_of c.loop-node.pass).held c.args.domain c.loop-node.node i.3
    (c.requires.held c.loop-node.node c.loop-node-test.true)) in (
      (s.0 ∙ i.0.0, s.1 ∙ i.0.1, s.2 ∙ i.0.2),
      ap (λ v. v.parts) e ∙ i.1,
      ap (λ v. v.outside) e ∙ i.2,
      λ h. ap (λ v. weigh h v.held + weigh h (tokens_of_nodes c.args.domain (c.loop-node.node + 1))) e ∙ more h,
    )

pub returns-clause-queue : goal.returns-clause-queue
returns-clause-queue g c = c.loop-node.invariant.0

pub returns-clause-parts : goal.returns-clause-parts
returns-clause-parts g c = c.loop-node.invariant.1

pub returns-clause-outside : goal.returns-clause-outside
returns-clause-outside g c = c.loop-node.invariant.2

pub returns-clause-held : goal.returns-clause-held
returns-clause-held g c =
    let all : c.loop-node.node ≡ c.args.nodes = omega arith in rw (← all) c.loop-node.invariant.3

use Rattle.std.proofs.Common.{map}
use Rattle.plan_rules.specs.Part.{node_part}
use Rattle.plan_rules.proofs.ListLemmas.{mapped_more, at_end}
use Rattle.plan_rules.proofs.parts.node_parts.Goals as goal

pub loop-node-preserved : goal.loop-node-preserved
loop-node-preserved c =
    rw (c.in_ok-push.ensures.items, c.node_part.ensures)
    (mapped_more node_part c.args.nodes.now c.loop-node.node-index _ _ c.loop-node-test.true c.loop-node.invariant)

pub returns : goal.returns
returns c =
    at_end (map node_part) c.args.nodes.now c.loop-node.node-index _ c.loop-node-test.false c.loop-node.invariant

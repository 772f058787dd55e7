use Rattle.node_memory.proofs.Edge.{copied-edge, length-copied}
use Rattle.node_memory.proofs.laws.copies_stop_at_the_edge.Goals as goal

pub returns-clause-edge : goal.returns-clause-edge
returns-clause-edge c = copied-edge

pub returns-clause-size : goal.returns-clause-size
returns-clause-size c = length-copied

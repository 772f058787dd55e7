-- What is seen of a node.
use Rattle.std.specs.Prelude.{ℕ, ◌==◌, not, ◌||◌, List, [], ◌∷◌, if◌then◌else◌}
use Rattle.node_memory.specs.Marks.{not_process}
use Rattle.link_channels.specs.declared.link.FourLinks.{FourLinks}
use Rattle.bootstrap.specs.declared.node.Node.{Node}
use Rattle.bootstrap.specs.declared.seen.Activity.{Activity}
use Rattle.bootstrap.specs.declared.seen.Activity.TheVariants as activity
use Rattle.bootstrap.specs.declared.seen.Seen.{Seen}
use Rattle.bootstrap.specs.declared.state.NodeState.{NodeState}
use Rattle.bootstrap.specs.declared.state.NodeState.TheVariants.{WantsControl, Takes, Answers, Runs, Halted}

-- a node that runs is running if there is a current process or one in the queue, and else idle
abbrev pub activity_of : NodeState → Activity
activity_of WantsControl = activity.Booting
activity_of (Takes link task) = activity.Booting
activity_of (Answers link left word) = activity.Booting
activity_of (Runs s) = if s.running || not (s.queue.front == not_process) then activity.Running else activity.Idle
activity_of (Halted fault) = activity.Halted fault

-- how many bytes each link has dropped, links in their order
abbrev pub overruns_of : FourLinks → List ℕ
overruns_of ls =
    ls.zero.end.input.overruns ∷ ls.one.end.input.overruns ∷ ls.two.end.input.overruns
    ∷ ls.three.end.input.overruns ∷ []

-- what a look shows of a node
abbrev pub seen : Node → Seen
seen n = record { state = activity_of n.state; overruns = overruns_of n.links }

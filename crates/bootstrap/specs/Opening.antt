-- A node as it is opened, and as it is after a reset. Transputer Reference Manual, reset.
use Rattle.std.specs.Prelude.{ℕ, replicate}
use Rattle.link_channels.specs.Links.{fresh_links}
use Rattle.bootstrap.specs.declared.node.Node.{Node}
use Rattle.bootstrap.specs.declared.state.NodeState.TheVariants.{WantsControl}

-- memory is zero, nothing has happened at the links, and a control byte is wanted
abbrev pub opened_node : ℕ → Node
opened_node size = record { memory = replicate size 0; links = fresh_links; state = WantsControl }

-- reset keeps memory, clears all link ends, gives up the registers and wants a control byte
abbrev pub restarted : Node → Node
restarted n = record { memory = n.memory; links = fresh_links; state = WantsControl }

-- What holds of every message and every service, whatever memory and links hold.
use Rattle.std.specs.Prelude.{◌≡◌, ℕ, ◌<◌, false, List, length}
use Rattle.node_memory.specs.Bytes.{copied}
use Rattle.node_memory.specs.Effect.{Gave, Halted}
use Rattle.node_memory.specs.declared.fault.Fault.TheVariants.{OutsideMemory}
use Rattle.process_queue.specs.declared.queue.Queue.{Queue}
use Rattle.link_channels.specs.declared.link.FourLinks.{FourLinks}
use Rattle.link_channels.specs.declared.process.Transfer.{Transfer}
use Rattle.link_channels.specs.Links.{any_has_work}
use Rattle.link_channels.specs.Service.{serve_all, does_something}
use Rattle.link_channels.specs.Soft.{exchange}

-- a message of more bytes than memory has is copied up to memory's edge, and halts the node there
abbrev pub MessageStopsAtTheEdge : Type 0
MessageStopsAtTheEdge =
    (from to v : ℕ) (t : Transfer) (ls : FourLinks) (q : Queue) (m : List ℕ) → length m < t.count →
    exchange from to v t ls q m ≡ Halted OutsideMemory ls (copied t.count m from to).1

-- a service of the links does something, or meets a fault, exactly if one of them has work
abbrev pub ServiceActsOnWork : Type 0
ServiceActsOnWork =
    (ls : FourLinks) (q : Queue) (m : List ℕ) → does_something (serve_all ls q m) ≡ any_has_work ls

-- if none has, it changes nothing
abbrev pub ServiceLeavesTheRest : Type 0
ServiceLeavesTheRest = (ls : FourLinks) (q : Queue) (m : List ℕ) → any_has_work ls ≡ false →
    serve_all ls q m ≡ Gave (false, q) ls m

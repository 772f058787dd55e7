-- The channel instructions on any channel: a soft one, or one of a link.
-- A channel that the instruction can't use is tested before the count.
use Rattle.std.specs.Prelude.{ℕ, Bool, List}
use Rattle.node_memory.specs.Effect.{Effect, Gave, Halted, ◌>>=◌, perform}
use Rattle.node_memory.specs.declared.fault.Fault.TheVariants.{WrongChannel}
use Rattle.process_queue.specs.declared.queue.Queue.{Queue}
use Rattle.link_channels.specs.declared.channel.Channel.{Channel}
use Rattle.link_channels.specs.declared.channel.Channel.TheVariants.{Soft, LinkOutput, LinkInput, Event}
use Rattle.link_channels.specs.declared.link.Link.{Link}
use Rattle.link_channels.specs.declared.link.FourLinks.{FourLinks}
use Rattle.link_channels.specs.declared.number.LinkNumber.{LinkNumber}
use Rattle.link_channels.specs.declared.process.Process.{Process}
use Rattle.link_channels.specs.declared.process.Transfer.{Transfer}
use Rattle.link_channels.specs.declared.process.TransferDirection.{TransferDirection}
use Rattle.link_channels.specs.declared.process.TransferDirection.TheVariants.{Input, Output}
use Rattle.link_channels.specs.declared.process.TransferOutcome.{TransferOutcome}
use Rattle.link_channels.specs.Kinds.{kind_of}
use Rattle.link_channels.specs.Links.{at, with_link, within}
use Rattle.link_channels.specs.Hard.{link_disable, link_enable, link_input, link_output}
use Rattle.link_channels.specs.Hard.{input_reset, output_reset}
use Rattle.link_channels.specs.Soft.{soft_disable, soft_enable, soft_input, soft_output, soft_reset}

-- fault 5: the channel can't be used so
abbrev pub wrong_channel : {A : Type 0} → FourLinks → List ℕ → Effect A FourLinks
wrong_channel ls m = Halted WrongChannel ls m

-- a message with a link leaves the queue
abbrev pub with_queue : Queue → Effect TransferOutcome FourLinks → Effect (TransferOutcome × Queue) FourLinks
with_queue q r = do (outcome, ls, m) ← perform r; Gave (outcome, q) ls m

-- in, by the kind of the channel
abbrev pub input_at : Channel → Process → Transfer → FourLinks → Queue → List ℕ
    → Effect (TransferOutcome × Queue) FourLinks
input_at Soft p t ls q m = soft_input p t ls q m
input_at (LinkInput n) p t ls q m = with_queue q (within n ls (link_input p t (at n ls) m))
input_at (LinkOutput n) p t ls q m = wrong_channel ls m
input_at Event p t ls q m = wrong_channel ls m

-- in, at any channel
abbrev pub input : Process → Transfer → FourLinks → Queue → List ℕ → Effect (TransferOutcome × Queue) FourLinks
input p t ls q m = input_at (kind_of t.channel) p t ls q m

-- out, by the kind of the channel
abbrev pub output_at : Channel → Process → Transfer → FourLinks → Queue → List ℕ
    → Effect (TransferOutcome × Queue) FourLinks
output_at Soft p t ls q m = soft_output p t ls q m
output_at (LinkInput n) p t ls q m = wrong_channel ls m
output_at (LinkOutput n) p t ls q m = with_queue q (within n ls (link_output p t (at n ls) m))
output_at Event p t ls q m = wrong_channel ls m

-- out, at any channel
abbrev pub output : Process → Transfer → FourLinks → Queue → List ℕ → Effect (TransferOutcome × Queue) FourLinks
output p t ls q m = output_at (kind_of t.channel) p t ls q m

-- in, or out
abbrev pub transferred : TransferDirection → Process → Transfer → FourLinks → Queue → List ℕ
    → Effect (TransferOutcome × Queue) FourLinks
transferred Input p t ls q m = input p t ls q m
transferred Output p t ls q m = output p t ls q m

-- enbc, by the kind of the channel, if the guard isn't 0
abbrev pub enable_at : Channel → Process → ℕ → FourLinks → List ℕ → Effect (Unit {0}) FourLinks
enable_at Soft p channel ls m = soft_enable p channel ls m
enable_at (LinkInput n) p channel ls m = within n ls (link_enable p channel (at n ls) m)
enable_at (LinkOutput n) p channel ls m = wrong_channel ls m
enable_at Event p channel ls m = wrong_channel ls m

-- enbc, at any channel, if the guard isn't 0
abbrev pub enable : Process → ℕ → FourLinks → List ℕ → Effect (Unit {0}) FourLinks
enable p channel ls m = enable_at (kind_of channel) p channel ls m

-- disc, by the kind of the channel, if the guard isn't 0
abbrev pub disable_at : Channel → Process → ℕ → ℕ → FourLinks → List ℕ → Effect Bool FourLinks
disable_at Soft p channel offset ls m = soft_disable p channel offset ls m
disable_at (LinkInput n) p channel offset ls m = within n ls (link_disable p channel offset (at n ls) m)
disable_at (LinkOutput n) p channel offset ls m = wrong_channel ls m
disable_at Event p channel offset ls m = wrong_channel ls m

-- disc, at any channel, if the guard isn't 0
abbrev pub disable : Process → ℕ → ℕ → FourLinks → List ℕ → Effect Bool FourLinks
disable p channel offset ls m = disable_at (kind_of channel) p channel offset ls m

-- resetch at a link's channel: the soft rule, and then the link's side; on the event channel our choice is a fault
abbrev pub changing : LinkNumber → (Link → Link) → Effect ℕ FourLinks → Effect ℕ FourLinks
changing n change r = do (c, ls, m) ← perform r; Gave c (with_link n (change (at n ls)) ls) m

-- resetch, by the kind of the channel
abbrev pub reset_at : Channel → ℕ → FourLinks → List ℕ → Effect ℕ FourLinks
reset_at Soft channel ls m = soft_reset channel ls m
reset_at (LinkInput n) channel ls m = changing n input_reset (soft_reset channel ls m)
reset_at (LinkOutput n) channel ls m = changing n output_reset (soft_reset channel ls m)
reset_at Event channel ls m = wrong_channel ls m

-- resetch, at any channel
abbrev pub reset : ℕ → FourLinks → List ℕ → Effect ℕ FourLinks
reset channel ls m = reset_at (kind_of channel) channel ls m

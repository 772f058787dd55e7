-- Channels of links: a process and a link of its node.
-- Transputer Reference Manual, links; instruction set handbook, in, out, enbc, disc, resetch.
use Rattle.std.specs.Prelude.{ℕ, ◌-◌, ◌==◌, Bool, true, false, List, None, is_some, if◌then◌else◌}
use Rattle.node_memory.specs.Effect.{Effect, Gave, ◌>>=◌, load, load_byte, store}
use Rattle.node_memory.specs.Marks.{not_process, ready}
use Rattle.node_memory.specs.Words.{◌⊕◌}
use Rattle.os_link.specs.End.{posted}
use Rattle.link_channels.specs.declared.link.Link.{Link}
use Rattle.link_channels.specs.declared.process.Process.{Process}
use Rattle.link_channels.specs.declared.process.Transfer.{Transfer}
use Rattle.link_channels.specs.declared.process.TransferOutcome.{TransferOutcome}
use Rattle.link_channels.specs.declared.process.TransferOutcome.TheVariants.{GoesOn, Waits}
use Rattle.link_channels.specs.Soft.{chosen}
use Rattle.link_channels.specs.Waiting.{descriptor_of, state_address, save}

-- in: the channel becomes the own descriptor, pointer and count are set, the watch is cleared, save, leave
abbrev pub link_input : Process → Transfer → Link → List ℕ → Effect TransferOutcome Link
link_input p t l m =
    if t.count == 0 then Gave GoesOn l m
    else (do
      m ← store l m t.channel (descriptor_of p)
      let asked : Link = record l { input_pointer = t.pointer; input_count = t.count; watched = false }
      m ← save asked m p
      Gave Waits asked m)

-- the first byte is posted, and the rest of the transfer is what comes after it
abbrev pub sending : ℕ → Transfer → Link → Link
sending byte t l =
    record l { end = posted byte l.end; output_pointer = t.pointer ⊕ 1; output_count = t.count - 1 }

-- out: the channel becomes the own descriptor, save, the first byte is read and posted, leave
abbrev pub link_output : Process → Transfer → Link → List ℕ → Effect TransferOutcome Link
link_output p t l m =
    if t.count == 0 then Gave GoesOn l m
    else (do
      m ← store l m t.channel (descriptor_of p)
      m ← save l m p
      byte ← load_byte l m t.pointer
      Gave Waits (sending byte t l) m)

-- enbc, if the guard isn't 0: ready if a byte is there, else watched
abbrev pub link_enable : Process → ℕ → Link → List ℕ → Effect (Unit {0}) Link
link_enable p channel l m =
    if is_some l.end.input.buffer then (do m ← store l m (state_address p.workspace) ready; Gave tt l m)
    else (do m ← store l m channel (descriptor_of p); Gave tt (record l { watched = true }) m)

-- whether a byte is there, and the branch the one that the alternative chooses
abbrev pub chosen_if_held : Process → ℕ → Link → List ℕ → Effect Bool Link
chosen_if_held p offset l m = if is_some l.end.input.buffer then chosen p offset l m else Gave false l m

-- disc, if the guard isn't 0: the watch is cleared, and the channel is given up if it is the own
abbrev pub link_disable : Process → ℕ → ℕ → Link → List ℕ → Effect Bool Link
link_disable p channel offset l m = do
  let unwatched : Link = record l { watched = false }
  c ← load unwatched m channel
  if c == descriptor_of p
      then (do m ← store unwatched m channel not_process; chosen_if_held p offset unwatched m)
      else chosen_if_held p offset unwatched m

-- resetch on an output channel: the byte that waits is withdrawn, count 0, both flags clear
abbrev pub output_reset : Link → Link
output_reset l = record l {
  end =
      record l.end
      { latch = record l.end.latch { byte = None }; output = record { awaits = false; acknowledged = false } };
  output_count = 0;
}

-- resetch on an input channel: the buffer is emptied without acknowledge, count 0, watch clear
abbrev pub input_reset : Link → Link
input_reset l = record l {
  end = record l.end { input = record l.end.input { buffer = None } };
  input_count = 0;
  watched = false;
}

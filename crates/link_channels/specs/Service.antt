-- The service of a link: what a buffered byte, an acknowledge and a watched arrival do to memory, the link and the
-- queue. Transputer Reference Manual, links. So a sender is scheduled only after the acknowledge of its last byte.
use Rattle.std.specs.Prelude.{ℕ, ◌-◌, ◌==◌, Bool, true, false, not, ◌||◌, List, Option, Some, None, Result, Ok, Err, is_none, if◌then◌else◌}
use Rattle.node_memory.specs.Effect.{Effect, Gave, Halted, ◌>>=◌, tried, load, load_byte, store, store_byte, perform}
use Rattle.node_memory.specs.Marks.{not_process, enabling, waiting, ready}
use Rattle.node_memory.specs.Words.{◌⊕◌}
use Rattle.node_memory.specs.declared.fault.Fault.{Fault}
use Rattle.process_queue.specs.Queue.{put}
use Rattle.process_queue.specs.declared.queue.Queue.{Queue}
use Rattle.os_link.specs.End.{emptied, posted}
use Rattle.link_channels.specs.declared.link.Link.{Link}
use Rattle.link_channels.specs.declared.link.FourLinks.{FourLinks}
use Rattle.link_channels.specs.declared.number.LinkNumber.{LinkNumber}
use Rattle.link_channels.specs.declared.number.LinkNumber.TheVariants.{Zero, One, Two, Three}
use Rattle.link_channels.specs.Links.{at, within, input_channel, output_channel, acknowledge_cleared}
use Rattle.link_channels.specs.Waiting.{waiting_at, state_address, scheduled}

-- whether something was done, and the queue then
abbrev pub LinkService : Type 0
LinkService = Effect (Bool × Queue) Link

-- something was done, whatever else was
abbrev pub marked_acted : Effect (Unit {0} × Queue) Link → LinkService
marked_acted r = do (done, l, m) ← perform r; Gave (true, done.1) l m

-- complete: d is the channel's word, which becomes NotProcess; if d isn't NotProcess, schedule d
abbrev pub complete : ℕ → Link → Queue → List ℕ → Effect (Unit {0} × Queue) Link
complete channel l q m = do
  d ← load l m channel
  m ← store l m channel not_process
  scheduled d l q m

-- the byte was stored: it is taken, the pointer goes up and the count down, and at 0 the input is complete
abbrev pub input_stored : ℕ → Link → Queue → List ℕ → LinkService
input_stored channel l q m =
    let k : Link =
    record l { end = emptied l.end; input_pointer = l.input_pointer ⊕ 1; input_count = l.input_count - 1 } in
    if k.input_count == 0 then marked_acted (complete channel k q m) else Gave (true, q) k m

-- the byte in the buffer, if there is one and a process waits for it, is stored at the pointer
abbrev pub input_of_buffer : Option ℕ → ℕ → Link → Queue → List ℕ → LinkService
input_of_buffer None channel l q m = Gave (false, q) l m
input_of_buffer (Some byte) channel l q m =
    if l.input_count == 0 then Gave (false, q) l m
    else (do m ← store_byte l m l.input_pointer byte; input_stored channel l q m)

-- first: the input count is above 0 and a byte is in the buffer
abbrev pub input_byte : ℕ → Link → Queue → List ℕ → LinkService
input_byte channel l q m = input_of_buffer l.end.input.buffer channel l q m

-- the next byte is posted, the pointer goes up and the count down
abbrev pub sent_on : ℕ → Link → Link
sent_on byte l =
    record l { end = posted byte l.end; output_pointer = l.output_pointer ⊕ 1; output_count = l.output_count - 1 }

-- the next byte of a message is read and posted, or the output is complete
abbrev pub output_continued : ℕ → Link → Queue → List ℕ → LinkService
output_continued channel l q m =
    if l.output_count == 0 then marked_acted (complete channel l q m)
    else (do byte ← load_byte l m l.output_pointer; Gave (true, q) (sent_on byte l) m)

-- second: "acknowledged" is set. It is cleared, and the output goes on
abbrev pub output_byte : ℕ → Link → Queue → List ℕ → LinkService
output_byte channel l q m =
    if not l.end.output.acknowledged then Gave (false, q) l m else output_continued channel (acknowledge_cleared l) q m

-- an alternative that was enabling becomes ready, one that waited becomes ready and is put
abbrev pub woken : ℕ → ℕ → Link → Queue → List ℕ → LinkService
woken state v l q m =
    if state == enabling then (do m ← store l m (state_address v) ready; Gave (true, q) l m)
    else (if state == waiting
    then (do m ← store l m (state_address v) ready; (q, m) ← put l q m v; Gave (true, q) l m)
    else Gave (true, q) l m)

-- the alternative at a channel, if there is one, becomes ready
abbrev pub wakes : Option ℕ → Link → Queue → List ℕ → LinkService
wakes None l q m = Gave (true, q) l m
wakes (Some v) l q m = do
  state ← load l m (state_address v)
  woken state v l q m

-- third: watched and a byte in the buffer. The watch is cleared, and the process at the input channel is woken
abbrev pub arrival : ℕ → Link → Queue → List ℕ → LinkService
arrival channel l q m =
    if not l.watched || is_none l.end.input.buffer then Gave (false, q) l m
    else (do
      let unwatched : Link = record l { watched = false }
      other ← tried (waiting_at m channel) unwatched m
      wakes other unwatched q m)

-- the three in their order
unfoldable pub serve_link : ℕ → ℕ → Link → Queue → List ℕ → LinkService
serve_link input output l q m = do
  (took, l, m) ← perform (input_byte input l q m)
  (gave, l, m) ← perform (output_byte output l took.1 m)
  (woke, l, m) ← perform (arrival input l gave.1 m)
  Gave (took.0 || gave.0 || woke.0, woke.1) l m

-- the service of one of the four links
abbrev pub serve : LinkNumber → FourLinks → Queue → List ℕ → Effect (Bool × Queue) FourLinks
serve n ls q m = within n ls (serve_link (input_channel n) (output_channel n) (at n ls) q m)

-- the service of the four in their order
unfoldable pub serve_all : FourLinks → Queue → List ℕ → Effect (Bool × Queue) FourLinks
serve_all ls q m = do
  (zero, ls, m) ← perform (serve Zero ls q m)
  (one, ls, m) ← perform (serve One ls zero.1 m)
  (two, ls, m) ← perform (serve Two ls one.1 m)
  (three, ls, m) ← perform (serve Three ls two.1 m)
  Gave (zero.0 || one.0 || two.0 || three.0, three.1) ls m

-- a service that did something, or met a fault
abbrev pub does_something : {L : Type 0} → Effect (Bool × Queue) L → Bool
does_something (Gave x l m) = x.0
does_something (Halted fault l m) = true

-- the code's answer to it: it did something, or met a fault
abbrev pub has_acted : Result Bool Fault → Bool
has_acted (Ok acted) = acted
has_acted (Err fault) = true

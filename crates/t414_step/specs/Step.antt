-- One instruction byte, and one step of the processor.
use Rattle.std.specs.Prelude.{ℕ, ◌+◌, ◌/◌, ◌%◌, Bool, true, false, List, Option, Some, None, if◌then◌else◌, bit_or, min}
use Rattle.node_memory.specs.Effect.{Effect, Gave, ◌>>=◌, load, load_byte, perform, beside}
use Rattle.node_memory.specs.Words.{◌⊕◌, ◌⊖◌, aligned}
use Rattle.process_queue.specs.Queue.{after_take}
use Rattle.t414_decode.specs.Codes.{function_of}
use Rattle.link_channels.specs.declared.link.FourLinks.{FourLinks}
use Rattle.link_channels.specs.Service.{serve_all}
use Rattle.t414_step.specs.declared.cpu.Cpu.{Cpu}
use Rattle.t414_step.specs.ChannelRows.{CpuEffect}
use Rattle.t414_step.specs.Rows.{direct}

-- the registers as a function of an instruction byte finds them: the byte is counted, up to 1,024, Iptr is next, O is 0
abbrev pub fetched : Cpu → Cpu
fetched s = record s { instruction = s.instruction ⊕ 1; bytes = min (s.bytes + 1) 1024; operand = 0 }

-- one instruction byte: the function of its high nibble, with its low nibble put into O
unfoldable pub byte_done : Cpu → FourLinks → List ℕ → CpuEffect
byte_done s ls m = do
  byte ← load_byte ls m s.instruction
  direct (function_of (byte / 16)) (bit_or s.operand (byte % 16)) (fetched s) ls m

-- a process that is taken from the queue: W is it, Iptr the word at W - 4, A, B, C, O and the byte count 0
abbrev pub resumed : ℕ → ℕ → Cpu → Cpu
resumed w i s =
    record s { workspace = w; instruction = i; a = 0; b = 0; c = 0; operand = 0; bytes = 0; running = true }

-- the process that was taken goes on at the word at W - 4
abbrev pub resumed_at : Option ℕ → Cpu → List ℕ → Effect Bool Cpu
resumed_at None s m = Gave false s m
resumed_at (Some w) s m = do i ← load s m (aligned w ⊖ 4); Gave true (resumed (aligned w) i s) m

-- a look at the queue: whether a process goes on, and the registers then
abbrev pub resumption : Cpu → List ℕ → Effect Bool Cpu
resumption s m = do
  (w, q, m) ← beside s (after_take s.queue m)
  resumed_at w (record s { queue = q }) m

-- what a step leaves: whether a service acted or a byte was done, which is false if there was nothing to do, and the
-- registers; or the fault that halted the node
abbrev pub StepEffect : Type 0
StepEffect = Effect (Bool × Cpu) FourLinks

-- the effect of an instruction byte as that of a step
abbrev pub stepped : CpuEffect → StepEffect
stepped effect = do (s, ls, m) ← perform effect; Gave (true, s) ls m

-- if there is no current process one is taken, and if there is one then a byte is done
abbrev pub processed : Bool → Cpu → FourLinks → List ℕ → StepEffect
processed acted s ls m =
    if s.running then stepped (byte_done s ls m)
    else (do
      (goes_on, s, m) ← beside ls (resumption s m)
      if goes_on then stepped (byte_done s ls m) else Gave (acted, s) ls m)

-- one step: links 0 to 3 are served in order, and then the processor does its part
unfoldable pub step : Cpu → FourLinks → List ℕ → StepEffect
step s ls m = do
  (x, ls, m) ← perform (serve_all ls s.queue m)
  processed x.0 (record s { queue = x.1 }) ls m

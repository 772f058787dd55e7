-- Changes of the registers alone, in the words of the instruction table. A register that a word doesn't name keeps
-- its value.
use Rattle.std.specs.Prelude.{ℕ, ◌+◌, ◌*◌, ◌/◌, ◌%◌, ◌^◌, ◌==◌, ◌&&◌, not, Bool, true, false, nat_lt, if◌then◌else◌}
use Rattle.node_memory.specs.Marks.{not_process}
use Rattle.node_memory.specs.Words.{aligned}
use Rattle.link_channels.specs.Links.{any_has_work}
use Rattle.link_channels.specs.declared.link.FourLinks.{FourLinks}
use Rattle.t414_step.specs.declared.cpu.Cpu.{Cpu}

-- 1 if a test holds, else 0
abbrev pub bit : Bool → ℕ
bit b = if b then 1 else 0

-- the registers of a processor that has done nothing, where its code and its workspace lie: A, B and C are 0, the queue
-- is empty and both flags are clear
abbrev pub started : ℕ → ℕ → Cpu
started i w = record {
  instruction = i;
  workspace = w;
  a = 0;
  b = 0;
  c = 0;
  operand = 0;
  queue = record { front = not_process; back = not_process };
  bytes = 0;
  error = false;
  halt_on_error = false;
  running = true;
}

-- push x: C = B, B = A, A = x
abbrev pub push : ℕ → Cpu → Cpu
push x s = record s { a = x; b = s.a; c = s.b }

-- un x: A = x
abbrev pub unary_result : ℕ → Cpu → Cpu
unary_result x s = record s { a = x }

-- bin x: A = x, B = C
abbrev pub binary_result : ℕ → Cpu → Cpu
binary_result x s = record s { a = x; b = s.c }

-- drop: A = B, B = C
abbrev pub drop : Cpu → Cpu
drop s = record s { a = s.b; b = s.c }

-- drop2: A = C
abbrev pub drop2 : Cpu → Cpu
drop2 s = record s { a = s.c }

-- a double word: A its low word, B its high one
abbrev pub long : ℕ → Cpu → Cpu
long x s = record s { a = x % 2 ^ 32; b = x / 2 ^ 32 }

-- the next instruction lies there
abbrev pub goto : ℕ → Cpu → Cpu
goto i s = record s { instruction = i }

-- W is set there, its low two bits cleared
abbrev pub at_workspace : ℕ → Cpu → Cpu
at_workspace w s = record s { workspace = aligned w }

-- leave: there is no current process
abbrev pub leave : Cpu → Cpu
leave s = record s { running = false }

-- the double word of a high and a low word
abbrev pub double : ℕ → ℕ → ℕ
double high low = high * 2 ^ 32 + low

-- what a word becomes as the high word of its sign extension
abbrev pub sign_of : ℕ → ℕ
sign_of w = if nat_lt w (2 ^ 31) then 0 else 0xFFFFFFFF

-- bit 0 of C
abbrev pub carry : Cpu → ℕ
carry s = s.c % 2

-- there is nothing to do: no current process, none in the queue, and no link that has work
abbrev pub has_nothing_to_do : Cpu → FourLinks → Bool
has_nothing_to_do s ls = not s.running && (s.queue.front == not_process) && not (any_has_work ls)

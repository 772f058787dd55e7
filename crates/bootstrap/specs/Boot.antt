-- What booting does to memory and to the registers. Transputer Reference Manual, bootstrapping.
use Rattle.std.specs.Prelude.{ℕ, zero, suc, ◌+◌, ◌*◌, ◌/◌, ◌^◌, List, Result, Ok, Err}
use Rattle.node_memory.specs.Bytes.{first_address, with_word}
use Rattle.node_memory.specs.Marks.{not_process}
use Rattle.node_memory.specs.Words.{◌⊕◌, aligned}
use Rattle.node_memory.specs.declared.fault.Fault.{Fault}
use Rattle.link_channels.specs.Links.{input_channel}
use Rattle.link_channels.specs.declared.number.LinkNumber.{LinkNumber}
use Rattle.t414_step.specs.declared.cpu.Cpu.{Cpu}
use Rattle.t414_step.specs.Registers.{started}

-- MemStart, where code is loaded. T414 data sheet, memory map
abbrev pub code_start : ℕ
code_start = 0x80000048

-- memory after a write, which is dropped if it lies outside
abbrev pub or_kept : Result (List ℕ) Fault → List ℕ → List ℕ
or_kept (Ok n) m = n
or_kept (Err fault) m = m

-- memory whose first channel words hold no process. T414 data sheet, memory map: the channels of four links in two
-- directions and the event channel, nine words
abbrev pub freed : ℕ → List ℕ → List ℕ
freed zero m = m
freed (suc k) m = or_kept (with_word (freed k m) (first_address + 4 * k) not_process) (freed k m)

-- a word that its bytes come to, least significant first: each is put in above the others, which move down
abbrev pub shifted_down : ℕ → ℕ → ℕ
shifted_down byte word = word / 2 ^ 8 + byte * 2 ^ 24

-- the registers of a node that begins to run code which ends before an address: Iptr is MemStart, W the first word
-- boundary at or above the end, C the boot link's input channel; the others are our choice
abbrev pub begun : LinkNumber → ℕ → Cpu
begun link end = record (started code_start (aligned (end ⊕ 3))) { c = input_channel link }

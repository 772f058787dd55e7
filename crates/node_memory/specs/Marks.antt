-- The words of memory that mean something other than a number or an address.
-- Transputer instruction set handbook, processes and alternatives.
use Rattle.std.specs.Prelude.{ℕ}

-- no process waits: MinInt
abbrev pub not_process : ℕ
not_process = 0x80000000

-- the states of an alternative, in the word 12 below its workspace: its guards are being enabled
abbrev pub enabling : ℕ
enabling = 0x80000001

-- none was ready, and the process waits
abbrev pub waiting : ℕ
waiting = 0x80000002

-- a guard is ready
abbrev pub ready : ℕ
ready = 0x80000003

-- no branch of an alternative is selected yet, in the word at its workspace: -1
abbrev pub none_selected : ℕ
none_selected = 0xFFFFFFFF

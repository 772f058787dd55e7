-- How many words of the frame a program uses, and how many processes it starts.
use Rattle.std.specs.Prelude.{ℕ, ◌+◌, Bool, true, false, max, min, if◌then◌else◌}
use Rattle.occam_core.specs.declared.channel.CoreChannel.{CoreChannel}
use Rattle.occam_core.specs.declared.channel.CoreChannel.TheVariants as channel
use Rattle.occam_core.specs.declared.channel.CoreGuard.{CoreGuard}
use Rattle.occam_core.specs.declared.channel.CoreGuard.TheVariants as guard
use Rattle.occam_core.specs.declared.expression.Expression.{Expression}
use Rattle.occam_core.specs.declared.expression.Expression.TheVariants.{Number, Variable, Element', One', Two', And', Or', Below'}
use Rattle.occam_core.specs.declared.process.CoreProcess.{CoreProcess}
use Rattle.occam_core.specs.declared.process.CoreProcess.TheVariants.{Skip, Stop, Line', Assign, AssignElement, Copy, Channels, Input, InputElement, InputArray, Output, OutputArray, Sequence', Parallel', Choose', If', While', Repeat'}

-- a number as a word: the largest word instead of a larger number
abbrev pub as_word : ℕ → ℕ
as_word n = min n 0xFFFFFFFF

-- a constant or a variable, which needs no register but the one that gets its value
abbrev pub is_leaf : Expression → Bool
is_leaf (Number n) = true
is_leaf (Variable v) = true
is_leaf _ = false

-- how many values an expression keeps together, each in a word: while the left side of an operation is evaluated, the
-- value of a right side that is no leaf
abbrev pub temporaries_of : Expression → ℕ
temporaries_of (Number n) = 0
temporaries_of (Variable v) = 0
temporaries_of (Element' array p i) = temporaries_of i
temporaries_of (One' op p a) = temporaries_of a
temporaries_of (Two' op p a q b) =
    if is_leaf b then temporaries_of a else max (temporaries_of a + 1) (temporaries_of b)
temporaries_of (And' p a q b) = max (temporaries_of a) (temporaries_of b)
temporaries_of (Or' p a q b) = max (temporaries_of a) (temporaries_of b)
temporaries_of (Below' bound p a) = temporaries_of a

-- the same while the address of a channel is kept as well, if it is an element of an array, and the rest of a statement
-- keeps this number of values
abbrev pub with_channel : CoreChannel → ℕ → ℕ
with_channel (channel.Link number) rest = rest
with_channel (channel.Inside v) rest = rest
with_channel (channel.Element array i) rest = max (temporaries_of i) (rest + 1)

-- the same while a value is kept, unless it is a leaf
abbrev pub with_value : Expression → ℕ → ℕ
with_value e rest = if is_leaf e then rest else max (temporaries_of e) (rest + 1)

-- the same while the condition and the channel of a guard are kept
abbrev pub with_guard : CoreGuard → ℕ → ℕ
with_guard (guard.Input e c) rest = with_value e (with_channel c rest)
with_guard (guard.Skip e) rest = with_value e rest

-- how many values the guards of an ALT keep together
abbrev pub guards_temporaries : CoreProcess → ℕ
guards_temporaries (Choose' g p a q b) = with_guard g (guards_temporaries b)
guards_temporaries _ = 0

-- a PAR of at least two components
abbrev pub is_parallel : CoreProcess → Bool
is_parallel (Parallel' p a q b) = true
is_parallel _ = false

-- how many values a process keeps together. The components of a PAR keep theirs at the same time, and the PAR two words
-- of its own: it is counted once, at its last component
abbrev pub process_temporaries : CoreProcess → ℕ
process_temporaries Skip = 0
process_temporaries Stop = 0
process_temporaries (Line' at p a) = process_temporaries a
process_temporaries (Assign v e) = temporaries_of e
process_temporaries (AssignElement array i e) = max (temporaries_of i + 1) (temporaries_of e)
process_temporaries (Copy to from) = 0
process_temporaries (Channels v count) = 0
process_temporaries (Input c message v) = with_channel c 0
process_temporaries (InputElement c array i) = with_channel c (temporaries_of i)
process_temporaries (InputArray c array) = with_channel c 0
process_temporaries (Output c message e) = with_channel c (if is_leaf e then 0 else max (temporaries_of e) 1)
process_temporaries (OutputArray c array) = with_channel c 0
process_temporaries (Sequence' p a q b) = max (process_temporaries a) (process_temporaries b)
process_temporaries (Parallel' p a q b) =
    process_temporaries a + process_temporaries b + (if is_parallel b then 0 else 2)
process_temporaries (Choose' g p a q b) =
    max (with_guard g (guards_temporaries b)) (max (process_temporaries a) (process_temporaries b))
process_temporaries (If' e p a q b) = max (max (temporaries_of e) (process_temporaries a)) (process_temporaries b)
process_temporaries (While' e p a) = max (temporaries_of e) (process_temporaries a)
process_temporaries (Repeat' v base count p a) =
    max (max (temporaries_of base) (temporaries_of count)) (process_temporaries a)

-- how many processes a process starts that can live together, those that they start among them
abbrev pub processes_below : CoreProcess → ℕ
processes_below (Line' at p a) = processes_below a
processes_below (Sequence' p a q b) = max (processes_below a) (processes_below b)
processes_below (Parallel' p a q b) = processes_below a + processes_below b + (if is_parallel b then 1 else 2)
processes_below (Choose' g p a q b) = max (processes_below a) (processes_below b)
processes_below (If' e p a q b) = max (processes_below a) (processes_below b)
processes_below (While' e p a) = processes_below a
processes_below (Repeat' v base count p a) = processes_below a
processes_below _ = 0

-- word 0, the variables and the values that are kept
abbrev pub workspace_words : CoreProcess → ℕ → ℕ
workspace_words p variables = process_temporaries p + variables + 1

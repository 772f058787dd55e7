-- One Step of a node, by what it is doing. Transputer Reference Manual, bootstrapping; that each Step is one act is our
-- choice.
use Rattle.std.specs.Prelude.{ℕ, ◌-◌, ◌/◌, ◌%◌, ◌^◌, ◌==◌, Bool, true, false, not, ◌&&◌, nat_lt, List, Option, Some, None, is_some, Result, Ok, Err, if◌then◌else◌}
use Rattle.node_memory.specs.Bytes.{word_at, with_word, with_byte}
use Rattle.node_memory.specs.Effect as effect
use Rattle.node_memory.specs.Words.{◌⊕◌}
use Rattle.node_memory.specs.declared.fault.Fault.{Fault}
use Rattle.link_channels.specs.Links.{at, byte_posted, byte_taken, acknowledge_cleared_at}
use Rattle.link_channels.specs.declared.link.FourLinks.{FourLinks}
use Rattle.link_channels.specs.declared.number.LinkNumber.{LinkNumber}
use Rattle.link_channels.specs.declared.number.LinkNumber.TheVariants.{Zero, One, Two, Three}
use Rattle.t414_step.specs.Answers.{is_idle}
use Rattle.t414_step.specs.Step.{StepEffect}
use Rattle.t414_step.specs.Step as processor
use Rattle.t414_step.specs.declared.stepping.Stepped.{Stepped}
use Rattle.t414_step.specs.declared.stepping.Stepped.TheVariants.{Ran, Idle}
use Rattle.t414_step.specs.declared.stepping.Stepped.TheVariants as code
use Rattle.bootstrap.specs.Boot.{code_start, or_kept, freed, shifted_down, begun}
use Rattle.bootstrap.specs.declared.node.Node.{Node}
use Rattle.bootstrap.specs.declared.state.NodeState.{NodeState}
use Rattle.bootstrap.specs.declared.state.NodeState.TheVariants.{WantsControl, Takes, Answers, Runs, Halted}
use Rattle.bootstrap.specs.declared.state.Task.{Task}
use Rattle.bootstrap.specs.declared.state.Task.TheVariants.{Poke, Peek, Load}

-- the lowest link that has a byte
abbrev pub offered : FourLinks → Option LinkNumber
offered ls =
    if is_some ls.zero.end.input.buffer then Some Zero
    else (if is_some ls.one.end.input.buffer then Some One
    else (if is_some ls.two.end.input.buffer then Some Two
    else (if is_some ls.three.end.input.buffer then Some Three
    else None)))

-- what a control byte asks for: 0 a poke, 1 a peek, more the load of that many bytes
abbrev pub task_of : ℕ → Task
task_of byte = if byte == 0 then Poke 8 0 0 else (if byte == 1 then Peek 4 0 else Load byte code_start)

-- the word that a peek answers: 0 if it lies outside memory
abbrev pub or_zero : Result ℕ Fault → ℕ
or_zero (Ok word) = word
or_zero (Err fault) = 0

-- the lowest byte of a word is posted on a link; this number of the word's bytes are left to be posted after it
abbrev pub answering : LinkNumber → ℕ → ℕ → Node → Node
answering link left word n =
    record n { links = byte_posted link (word % 2 ^ 8) n.links; state = Answers link left (word / 2 ^ 8) }

-- a poke gets a byte: four of the address, then four of the word, which is stored with the last
abbrev pub poked : ℕ → ℕ → ℕ → ℕ → LinkNumber → Node → Node
poked left address word byte link n =
    if nat_lt 4 left then record n { state = Takes link (Poke (left - 1) (shifted_down byte address) word) }
    else (if nat_lt 1 left then record n { state = Takes link (Poke (left - 1) address (shifted_down byte word)) }
    else record n
    { memory = or_kept (with_word n.memory address (shifted_down byte word)) n.memory; state = WantsControl })

-- a peek gets a byte of its address: with the last the word is read and its first byte posted
abbrev pub peeked : ℕ → ℕ → ℕ → LinkNumber → Node → Node
peeked left address byte link n =
    if nat_lt 1 left then record n { state = Takes link (Peek (left - 1) (shifted_down byte address)) }
    else answering link 3 (or_zero (word_at n.memory (shifted_down byte address))) n

-- the code goes on at an address, or is whole and begins to run
abbrev pub loaded_to : ℕ → ℕ → LinkNumber → List ℕ → Node → Node
loaded_to left end link m n =
    if nat_lt 1 left
    then record n { memory = m; state = Takes link (Load (left - 1) end) }
    else record n { memory = freed 9 m; state = Runs (begun link end) }

-- a load gets a byte, which is stored
abbrev pub loaded : ℕ → ℕ → ℕ → LinkNumber → Node → Node
loaded left address byte link n =
    loaded_to left (address ⊕ 1) link (or_kept (with_byte n.memory address byte) n.memory) n

-- a task gets a byte
abbrev pub given : Task → ℕ → LinkNumber → Node → Node
given (Poke left address word) byte link n = poked left address word byte link n
given (Peek left address) byte link n = peeked left address byte link n
given (Load left address) byte link n = loaded left address byte link n

-- an answer goes on once its last byte was acknowledged
abbrev pub answer_continued : LinkNumber → ℕ → ℕ → Node → Node × Stepped
answer_continued link left word n =
    if not (at link n.links).end.output.acknowledged then (n, Idle)
    else (if left == 0 then (record n { links = acknowledge_cleared_at link n.links; state = WantsControl }, Ran)
    else (answering link (left - 1) word (record n { links = acknowledge_cleared_at link n.links }), Ran))

-- a Step that takes a byte: Idle if there is none
abbrev pub fed : Option ℕ → (ℕ → Node) → Node → Node × Stepped
fed None next n = (n, Idle)
fed (Some byte) next n = (next byte, Ran)

-- a byte is taken from a link, unless there is none
abbrev pub feed : LinkNumber → (ℕ → Node → Node) → Node → Node × Stepped
feed link next n =
    fed (at link n.links).end.input.buffer (λ byte. next byte (record n { links = byte_taken link n.links })) n

-- a control byte is taken from this link and begins its task
abbrev pub controlled : Option LinkNumber → Node → Node × Stepped
controlled None n = (n, Idle)
controlled (Some link) n = feed link (λ byte k. record k { state = Takes link (task_of byte) }) n

-- what a step of the processor left, kept in the node; after a fault the registers are given up
abbrev pub ran : StepEffect → Node × Stepped
ran (effect.Gave (true, s) ls m) = (record { memory = m; links = ls; state = Runs s }, Ran)
ran (effect.Gave (false, s) ls m) = (record { memory = m; links = ls; state = Runs s }, Idle)
ran (effect.Halted fault ls m) = (record { memory = m; links = ls; state = Halted fault }, code.Fault fault)

-- a Step, by what the node is doing
abbrev pub step_by_state : NodeState → Node → Node × Stepped
step_by_state WantsControl n = controlled (offered n.links) n
step_by_state (Takes link task) n = feed link (λ byte k. given task byte link k) n
step_by_state (Answers link left word) n = answer_continued link left word n
step_by_state (Runs s) n = ran (processor.step s n.links n.memory)
step_by_state (Halted fault) n = (n, code.Fault fault)

-- the node after a Step, and the answer
unfoldable pub node_step : Node → Node × Stepped
node_step n = step_by_state n.state n

-- a fault has halted the node
abbrev pub has_halted : NodeState → Bool
has_halted (Halted fault) = true
has_halted WantsControl = false
has_halted (Takes link task) = false
has_halted (Answers link left word) = false
has_halted (Runs s) = false

-- a Step that is recorded: one that doesn't answer Idle, of a node that hadn't halted before
abbrev pub is_step_recorded : Node → Bool
is_step_recorded n = not (has_halted n.state) && not (is_idle (node_step n).1)

-- a Step that would not be recorded
abbrev pub is_quiet : Node → Bool
is_quiet n = not (is_step_recorded n)

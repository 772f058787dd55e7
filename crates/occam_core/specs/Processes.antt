-- What a sequential process does: which words it leaves in its variables, what it says and hears, and how it ends.
-- occam 2 reference manual, processes. A condition is FALSE if it is 0. A message of an INT is four bytes, the least
-- significant first, and one of a BYTE is one byte. By which links bytes come is left open: an input takes the next.
use Rattle.std.specs.Prelude.{ℕ, zero, suc, ◌+◌, ◌-◌, ◌*◌, ◌/◌, ◌%◌, ◌^◌, ◌<◌, ◌≤◌, ◌==◌, ◌⊎◌, ⊤, List, [], ◌∷◌, ◌++◌, Option, Some, None, length, take, drop, pos, int_lt, nat_le, nat_lt, if◌then◌else◌, slice_index, slice_set}
use Rattle.node_memory.specs.Bytes.{word_from}
use Rattle.node_memory.specs.Words.{◌⊕◌, ◌⊖◌, signed}
use Rattle.occam_core.specs.declared.channel.CoreChannel.TheVariants.{Link}
use Rattle.occam_core.specs.declared.channel.MessageKind.{MessageKind}
use Rattle.occam_core.specs.declared.channel.MessageKind.TheVariants as message
use Rattle.occam_core.specs.declared.expression.CoreArray.{CoreArray}
use Rattle.occam_core.specs.declared.expression.ElementKind.{ElementKind}
use Rattle.occam_core.specs.declared.expression.ElementKind.TheVariants as kind
use Rattle.occam_core.specs.declared.process.CoreProcess.{CoreProcess}
use Rattle.occam_core.specs.declared.process.CoreProcess.TheVariants.{Skip, Stop, Line', Assign, AssignElement, Copy, Input, InputElement, InputArray, Output, OutputArray, Sequence', If', While', Repeat'}
use Rattle.occam_core.specs.Values.{value}

-- a message of these bytes by the channel of this number
pub data Exchange : Type 0 where
  Said : (channel : ℕ) (bytes : List ℕ) → Exchange
  Heard : (channel : ℕ) (bytes : List ℕ) → Exchange

-- where a process has come to: the words of its variables, the bytes that are still to come, and all messages so far
pub record Situation : Type 0 where
  pub store : List ℕ
  pub coming : List ℕ
  pub talk : List Exchange

-- how far a process goes: it ends, it errs, it waits for a message, and too few bytes come, or it has made as many
-- turns of a loop as it was given. All but an end have the messages up to there
pub data Course : Type 0 where
  Ended : Situation → Course
  Erred : List Exchange → Course
  Awaits : List Exchange → Course
  Unfinished : List Exchange → Course

-- goes on where a process has ended
abbrev pub then_do : Course → (Situation → Course) → Course
then_do (Ended at) go = go at
then_do (Erred talk) go = Erred talk
then_do (Awaits talk) go = Awaits talk
then_do (Unfinished talk) go = Unfinished talk

-- goes on with a value, or errs if there is none
abbrev pub value_then : Option ℕ → List Exchange → (ℕ → Course) → Course
value_then None talk go = Erred talk
value_then (Some x) talk go = go x

-- a variable gets a word
abbrev pub assigned : ℕ → ℕ → Situation → Situation
assigned v x at = record at { store = slice_set at.store v x }

-- a byte of the words of a store; each word has four, the least significant first
abbrev pub byte_in : List ℕ → ℕ → ℕ
byte_in σ i = slice_index σ (i / 4) / 2 ^ (8 * (i % 4)) % 2 ^ 8

-- a word with another byte in one of its four places
abbrev pub with_byte_of : ℕ → ℕ → ℕ → ℕ
with_byte_of word place byte = word - word / 2 ^ (8 * place) % 2 ^ 8 * 2 ^ (8 * place) + byte * 2 ^ (8 * place)

-- a store with another byte
abbrev pub with_byte_in : List ℕ → ℕ → ℕ → List ℕ
with_byte_in σ i byte = slice_set σ (i / 4) (with_byte_of (slice_index σ (i / 4)) (i % 4) byte)

-- a store with another value of the element of an array that begins at a variable; a BYTE is the value's lowest byte
abbrev pub with_element : ElementKind → ℕ → List ℕ → ℕ → ℕ → List ℕ
with_element kind.Word first σ k x = slice_set σ (first + k) x
with_element kind.Byte first σ k x = with_byte_in σ (4 * first + k) (x % 2 ^ 8)

-- a store with these bytes from one of its bytes on
abbrev pub with_bytes_in : List ℕ → ℕ → List ℕ → List ℕ
with_bytes_in σ i [] = σ
with_bytes_in σ i (byte ∷ bytes) = with_bytes_in (with_byte_in σ i byte) (i + 1) bytes

-- this number of bytes of a store, from one of them on
abbrev pub bytes_of_store : ℕ → List ℕ → ℕ → List ℕ
bytes_of_store zero σ i = []
bytes_of_store (suc n) σ i = byte_in σ i ∷ bytes_of_store n σ (i + 1)

-- how many bytes an element has
abbrev pub bytes_of_element : ElementKind → ℕ
bytes_of_element kind.Byte = 1
bytes_of_element kind.Word = 4

-- how many bytes an array has
abbrev pub array_size : CoreArray → ℕ
array_size array = array.length * bytes_of_element array.kind

-- the next bytes that come, as a message of a channel
abbrev pub heard : ℕ → ℕ → Situation → Situation
heard channel count at = record at {
  coming = drop count at.coming;
  talk = at.talk ++ Heard channel (take count at.coming) ∷ [];
}

-- a message of this number of bytes, which go to the store from one of its bytes on
abbrev pub received : ℕ → ℕ → ℕ → Situation → Course
received channel count i at =
    if nat_le count (length at.coming)
    then Ended (record (heard channel count at) { store = with_bytes_in at.store i (take count at.coming) })
    else Awaits at.talk

-- how many bytes a message has
abbrev pub bytes_in : MessageKind → ℕ
bytes_in message.Byte = 1
bytes_in message.Word = 4

-- the value of a message
abbrev pub value_heard : MessageKind → List ℕ → ℕ
value_heard message.Byte bytes = slice_index bytes 0
value_heard message.Word bytes = word_from bytes 0

-- a value as a message
abbrev pub bytes_said : MessageKind → ℕ → List ℕ
bytes_said message.Byte x = x % 2 ^ 8 ∷ []
bytes_said message.Word x = x % 2 ^ 8 ∷ x / 2 ^ 8 % 2 ^ 8 ∷ x / 2 ^ 16 % 2 ^ 8 ∷ x / 2 ^ 24 % 2 ^ 8 ∷ []

-- at most this number of turns of a loop, as long as its condition isn't 0
abbrev pub turns : ℕ → (Situation → Option ℕ) → (Situation → Course) → Situation → Course
turns zero test body at = Unfinished at.talk
turns (suc n) test body at =
    value_then (test at) at.talk (λ x. if x == 0 then Ended at else then_do (body at) (turns n test body))

-- how many turns are left, as the variable after the index says
abbrev pub turns_left : ℕ → Situation → ℕ
turns_left v at = slice_index at.store (v + 1)

-- after a turn one turn less is left
abbrev pub turn_over : ℕ → Situation → Situation
turn_over v at = assigned (v + 1) (turns_left v at ⊖ 1) at

-- at most this number of turns of a loop with an index: if one is left after a turn, the index is one more for it
abbrev pub rounds : ℕ → ℕ → (Situation → Course) → Situation → Course
rounds zero v body at = Unfinished at.talk
rounds (suc n) v body at =
    then_do (body at)
    (λ end. if int_lt (pos 1) (signed (turns_left v end))
    then rounds n v body (assigned v (slice_index end.store v ⊕ 1) (turn_over v end))
    else Ended (turn_over v end))

-- what a process does where each loop in it makes at most n turns; of a process that isn't sequential nothing is said.
-- The number of a loop's turns is evaluated when its index has its first value
abbrev pub does : ℕ → CoreProcess → Situation → Course
does n Skip at = Ended at
does n Stop at = Erred at.talk
does n (Line' place p a) at = does n a at
does n (Assign v e) at = value_then (value e at.store) at.talk (λ x. Ended (assigned v x at))
does n (AssignElement array i e) at =
    value_then (value e at.store) at.talk
    (λ x. value_then (value i at.store) at.talk
    (λ k. if nat_lt k array.length
    then Ended (record at { store = with_element array.kind array.first at.store k x })
    else Erred at.talk))
does n (Copy to from) at =
    Ended (record at {
      store = with_bytes_in at.store (4 * to.first) (bytes_of_store (array_size to) at.store (4 * from.first));
    })
does n (Input (Link c) kind v) at =
    if nat_le (bytes_in kind) (length at.coming)
    then Ended (assigned v (value_heard kind at.coming) (heard c (bytes_in kind) at))
    else Awaits at.talk
does n (InputElement (Link c) array e) at =
    value_then (value e at.store) at.talk
    (λ k. if nat_lt k array.length
    then received c (bytes_of_element array.kind) (4 * array.first + k * bytes_of_element array.kind) at
    else Erred at.talk)
does n (InputArray (Link c) array) at = received c (array_size array) (4 * array.first) at
does n (OutputArray (Link c) array) at =
    Ended (record at {
      talk = at.talk ++ Said c (bytes_of_store (array_size array) at.store (4 * array.first)) ∷ [];
    })
does n (Output (Link c) kind e) at =
    value_then (value e at.store) at.talk
    (λ x. Ended (record at { talk = at.talk ++ Said c (bytes_said kind x) ∷ [] }))
does n (Sequence' p a q b) at = then_do (does n a at) (does n b)
does n (If' e p a q b) at =
    value_then (value e at.store) at.talk (λ x. if x == 0 then does n b at else does n a at)
does n (While' e p a) at = turns n (λ now. value e now.store) (does n a) at
does n (Repeat' v base count p a) at =
    value_then (value base at.store) at.talk
    (λ x. let begun = assigned v x at in
    value_then (value count begun.store) begun.talk
    (λ k. if nat_le (2 ^ 31) k then Erred begun.talk
    else (let set = assigned (v + 1) k begun in if k == 0 then Ended set else rounds n v (does n a) set)))
does n _ at = Unfinished at.talk

-- the processes whose code does what is said here: no PAR and no ALT, messages by links alone, and copies to arrays
-- that don't begin within the other
abbrev pub IsSequential : CoreProcess → Type 0
IsSequential Skip = ⊤
IsSequential Stop = ⊤
IsSequential (Line' place p a) = IsSequential a
IsSequential (Assign v e) = ⊤
IsSequential (AssignElement array i e) = ⊤
IsSequential (Copy to from) = (to.first ≤ from.first) ⊎ (4 * from.first + array_size to ≤ 4 * to.first)
IsSequential (Input (Link c) kind v) = (4 ≤ c) × (c < 8)
IsSequential (InputElement (Link c) array e) = (4 ≤ c) × (c < 8)
IsSequential (InputArray (Link c) array) = (4 ≤ c) × (c < 8)
IsSequential (OutputArray (Link c) array) = c < 4
IsSequential (Output (Link c) kind e) = c < 4
IsSequential (Sequence' p a q b) = IsSequential a × IsSequential b
IsSequential (If' e p a q b) = IsSequential a × IsSequential b
IsSequential (While' e p a) = IsSequential a
IsSequential (Repeat' v base count p a) = IsSequential a
IsSequential _ = ⊥

-- What an operation comes to: an answer, or the fault that halts the node, with what it leaves; and the acts that
-- operations are made of. Transputer instruction set handbook: an instruction's reads and writes, in their order.
use Rattle.std.specs.Prelude.{ℕ, List, Result, Ok, Err}
use Rattle.node_memory.specs.Bytes.{word_at, with_word, byte_at, with_byte, copied}
use Rattle.node_memory.specs.declared.fault.Fault.{Fault}

-- A is the answer, S what is worked on beside memory: the queue, a link, or the four of a node. After a fault both are
-- as they were left
pub data Effect (A S : Type 0) : Type 0 where
  Gave : A → S → List ℕ → Effect A S
  Halted : Fault → S → List ℕ → Effect A S

-- in a `do` block, `x ← act` goes on with what the act gives as x
infixl 10 ◌>>=◌
abbrev pub ◌>>=◌ : {A B : Type 0} → (A → B) → A → B
act >>= next = act next

-- goes on with what was read or written, unless it is a fault
abbrev pub tried : {A B S : Type 0} → Result B Fault → S → List ℕ → (B → Effect A S) → Effect A S
tried (Ok x) s m next = next x
tried (Err fault) s m next = Halted fault s m

-- the word at an address
abbrev pub load : {A S : Type 0} → S → List ℕ → ℕ → (ℕ → Effect A S) → Effect A S
load s m a next = tried (word_at m a) s m next

-- the byte at an address
abbrev pub load_byte : {A S : Type 0} → S → List ℕ → ℕ → (ℕ → Effect A S) → Effect A S
load_byte s m a next = tried (byte_at m a) s m next

-- memory after a word was written at an address
abbrev pub store : {A S : Type 0} → S → List ℕ → ℕ → ℕ → (List ℕ → Effect A S) → Effect A S
store s m a w next = tried (with_word m a w) s m next

-- memory after a byte was written at an address
abbrev pub store_byte : {A S : Type 0} → S → List ℕ → ℕ → ℕ → (List ℕ → Effect A S) → Effect A S
store_byte s m a b next = tried (with_byte m a b) s m next

-- memory after this number of bytes were copied from one address to another; a fault leaves what was copied before it
abbrev pub copy : {A S : Type 0} → S → List ℕ → ℕ → ℕ → ℕ → (List ℕ → Effect A S) → Effect A S
copy s m count from to next =
    tried (copied count m from to).0 s (copied count m from to).1 (λ _. next (copied count m from to).1)

-- goes on with the answer of an operation and what it left
abbrev pub perform : {A B S : Type 0} → Effect B S → (B × S × List ℕ → Effect A S) → Effect A S
perform (Gave x s m) next = next (x, s, m)
perform (Halted fault s m) next = Halted fault s m

-- the same of an operation on something else, T, beside which S stays
abbrev pub beside : {A B S T : Type 0} → S → Effect B T → (B × T × List ℕ → Effect A S) → Effect A S
beside s (Gave x t m) next = next (x, t, m)
beside s (Halted fault t m) next = Halted fault s m

-- an answer of the code, with what it left
abbrev pub effect_of : {A S : Type 0} → Result A Fault → S → List ℕ → Effect A S
effect_of (Ok x) s m = Gave x s m
effect_of (Err fault) s m = Halted fault s m

-- the same if a value that it changed belongs to the answer: after a fault that is given up
abbrev pub effect_with : {A B S : Type 0} → Result A Fault → B → S → List ℕ → Effect (A × B) S
effect_with (Ok x) y s m = Gave (x, y) s m
effect_with (Err fault) y s m = Halted fault s m

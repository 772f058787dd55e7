-- What the code of an expression does, in terms of what the expression is worth.
use Rattle.std.specs.Prelude.{ℕ, ◌≡◌, ◌+◌, ◌-◌, ◌*◌, ◌/◌, ◌%◌, ◌^◌, ◌<◌, ◌≤◌, ◌⊎◌, ⊤, List, Option, Some, None, true, length, slice_get, slice_index}
use Rattle.node_memory.specs.Bytes.{IsMemorySize, first_address, word_from}
use Rattle.link_channels.specs.declared.link.FourLinks.{FourLinks}
use Rattle.t414_assembly.specs.declared.statement.Statement.{Statement}
use Rattle.t414_step.specs.declared.cpu.Cpu.{Cpu}
use Rattle.occam_core.specs.declared.expression.ElementKind.{ElementKind}
use Rattle.occam_core.specs.declared.expression.ElementKind.TheVariants as kind
use Rattle.occam_core.specs.declared.expression.Expression.{Expression}
use Rattle.occam_core.specs.declared.expression.Expression.TheVariants.{Number, Variable, Element', One', Two', And', Or', Below'}
use Rattle.occam_core.specs.Values.{value}
use Rattle.occam_code.specs.declared.frame.FrameWords.{FrameWords}
use Rattle.occam_code.specs.Words.{temporaries_of}
use Rattle.occam_code.specs.Machine.{Leads, Falls}

-- how many words an array of this number of elements has
abbrev pub array_words : ElementKind → ℕ → ℕ
array_words kind.Byte count = (count + 3) / 4
array_words kind.Word count = count

-- the variables of an expression, and the words of its arrays, have numbers below this one
abbrev pub NamesBelow : ℕ → Expression → Type 0
NamesBelow count (Number n) = ⊤
NamesBelow count (Variable v) = v < count
NamesBelow count (Element' array p i) =
    (array.first + array_words array.kind array.length ≤ count) × NamesBelow count i
NamesBelow count (One' op p a) = NamesBelow count a
NamesBelow count (Two' op p a q b) = NamesBelow count a × NamesBelow count b
NamesBelow count (And' p a q b) = NamesBelow count a × NamesBelow count b
NamesBelow count (Or' p a q b) = NamesBelow count a × NamesBelow count b
NamesBelow count (Below' bound p a) = NamesBelow count a

-- the constants of an expression are words
abbrev pub HasWords : Expression → Type 0
HasWords (Number n) = n < 2 ^ 32
HasWords (Variable v) = ⊤
HasWords (Element' array p i) = HasWords i
HasWords (One' op p a) = HasWords a
HasWords (Two' op p a q b) = HasWords a × HasWords b
HasWords (And' p a q b) = HasWords a × HasWords b
HasWords (Or' p a q b) = HasWords a × HasWords b
HasWords (Below' bound p a) = HasWords a

-- the word of this number of the workspace w
abbrev pub word_in : ℕ → List ℕ → ℕ → ℕ
word_in w m k = word_from m (w - first_address + 4 * k)

-- the workspace w has this number of words in memory, and the first variables are those of a store: v in word v of
-- those from `base` on
pub record Holds (w base size count : ℕ) (store m : List ℕ) : Type 0 where
  pub memory : IsMemorySize (length m)
  pub bytes : (i : ℕ) → slice_index m i < 2 ^ 8
  pub aligned : w % 4 ≡ 0
  pub least : first_address ≤ w
  pub most : w - first_address + 4 * size ≤ length m
  pub variables : (v : ℕ) → v < count → word_in w m (v + base) ≡ slice_index store v

-- memory has changed in no other byte than those of a workspace's words from one on, up to its size
pub record KeepsOthers (w first size : ℕ) (m u : List ℕ) : Type 0 where
  pub long : length u ≡ length m
  pub others : (i : ℕ) → (i < w - first_address + 4 * first) ⊎ (w - first_address + 4 * size ≤ i)
      → slice_index u i ≡ slice_index m i

-- some instructions lead to a place with the value in A: B and C have any values, all other registers and the links
-- are as they were, and memory has changed in no other words than the temporaries
pub record Gives (address : ℕ → ℕ) (code : List Statement) (ls : FourLinks) (last first base size count : ℕ)
    (store : List ℕ) (s : Cpu) (m : List ℕ) (x : ℕ) : Type 0 where
  pub number : ℕ
  pub b : ℕ
  pub c : ℕ
  pub memory : List ℕ
  pub leads : Leads address code ls number s m (record s { instruction = address last; a = x; b = b; c = c }) memory
  pub kept : KeepsOthers s.workspace first size m memory
  pub holds : Holds s.workspace base size count store memory

-- a run is at the place of an expression's code, and its workspace has room for what the code keeps
pub record IsReady (address : ℕ → ℕ) (place : ℕ) (words : FrameWords) (size count : ℕ) (store : List ℕ)
    (e : Expression) (s : Cpu) (m : List ℕ) : Type 0 where
  pub addresses : (k : ℕ) → address k < 2 ^ 32
  pub here : s.instruction ≡ address place
  pub holds : Holds s.workspace words.base size count store m
  pub names : NamesBelow count e
  pub free : count + words.base ≤ words.temporary
  pub room : words.temporary + temporaries_of e ≤ size

-- what comes of an expression's code: its value, or, if it has none and errors halt the node, a halt
abbrev pub Comes : (ℕ → ℕ) → List Statement → FourLinks → ℕ → ℕ → ℕ → ℕ → ℕ → List ℕ → Cpu → List ℕ → Option ℕ → Type 0
Comes address code ls last first base size count store s m (Some x) =
    Gives address code ls last first base size count store s m x
Comes address code ls last first base size count store s m None =
    s.halt_on_error ≡ true → Falls address code ls s m

-- the statements from a place to another are an expression's code: in every program that has them there, at whatever
-- addresses, a run that is ready goes on to the second place with the value that the expression has in its store, and
-- is halted if the expression has none
abbrev pub GivesValue : ℕ → ℕ → List Statement → FrameWords → Expression → Type 0
GivesValue first last code words e =
    (program : List Statement)
    → ((k : ℕ) → first ≤ k → k < last → slice_get program k ≡ slice_get code k)
    → (address : ℕ → ℕ) (ls : FourLinks) (size count : ℕ) (store : List ℕ) (s : Cpu) (m : List ℕ)
    → IsReady address first words size count store e s m
    → Comes address program ls last words.temporary words.base size count store s m (value e store)

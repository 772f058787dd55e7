-- Where the processes of a program are, and that no two which can live together share a word.
-- The room of a program is the words that its start leaves for it. Its first words are those of the processes' own:
-- word 0
-- of the workspace of each, and the three below it. Then come the words of the frame: the variables, and what is kept.
use Rattle.std.specs.Prelude.{ℕ, ◌≡◌, ◌+◌, ◌*◌, ◌^◌, ◌<◌, ◌≤◌, ◌⊎◌, List, [], ◌∷◌, Some, true, if◌then◌else◌, slice_get}
use Rattle.node_memory.specs.Words.{◌⊕◌, ◌⊗◌}
use Rattle.occam_core.specs.declared.process.CoreProcess.{CoreProcess}
use Rattle.occam_core.specs.declared.process.CoreProcess.TheVariants.{Line', Sequence', Parallel', Choose', If', While', Repeat'}
use Rattle.occam_code.specs.declared.frame.FrameWords.{FrameWords}
use Rattle.occam_code.specs.Words.{as_word, is_parallel, process_temporaries, processes_below, workspace_words}
use Rattle.occam_code.specs.Components.{components, inside, after_component}
use Rattle.occam_code.specs.Code.{workspace_move, program_words}

-- a process, and where the words of the frame are from its workspace
pub record PlacedProcess : Type 0 where
  pub words : FrameWords
  pub process : CoreProcess

abbrev pub placed : FrameWords → CoreProcess → PlacedProcess
placed words p = record { words = words; process = p }

-- the components of a PAR, whose first has these words
abbrev pub placed_components : FrameWords → List CoreProcess → List PlacedProcess
placed_components words [] = []
placed_components words (p ∷ ps) = placed words p ∷ placed_components (after_component words p) ps

-- the processes that a process is made of, with the words that their code is given
abbrev pub placed_parts : FrameWords → CoreProcess → List PlacedProcess
placed_parts words (Line' at p a) = placed words a ∷ []
placed_parts words (Sequence' p a q b) = placed words a ∷ placed words b ∷ []
placed_parts words (Parallel' p a q b) = placed_components (inside words) (a ∷ components b)
placed_parts words (Choose' g p a q b) = placed words a ∷ placed words b ∷ []
placed_parts words (If' e p a q b) = placed words a ∷ placed words b ∷ []
placed_parts words (While' e p a) = placed words a ∷ []
placed_parts words (Repeat' v base count p a) = placed words a ∷ []
placed_parts words _ = []

-- the second is a part of the first, or a part of one, and so on, or the first itself
pub data Within : PlacedProcess → PlacedProcess → Type 0 where
  itself : (whole : PlacedProcess) → Within whole whole
  inner : (whole part last : PlacedProcess) (i : ℕ) → slice_get (placed_parts whole.words whole.process) i ≡ Some part
      → Within part last → Within whole last

-- one of two components of a PAR that is a part of the whole, and one of the other
pub record OfTwo (whole first second : PlacedProcess) : Type 0 where
  pub par : PlacedProcess
  pub within : Within whole par
  pub is_par : is_parallel par.process ≡ true
  pub i : ℕ
  pub j : ℕ
  pub order : i < j
  pub one : PlacedProcess
  pub other : PlacedProcess
  pub one_is : slice_get (placed_parts par.words par.process) i ≡ Some one
  pub other_is : slice_get (placed_parts par.words par.process) j ≡ Some other
  pub first_within : Within one first
  pub second_within : Within other second

-- a PAR that is a part of the whole, and one of a component
pub record OfStarter (whole first second : PlacedProcess) : Type 0 where
  pub within : Within whole first
  pub is_par : is_parallel first.process ≡ true
  pub i : ℕ
  pub one : PlacedProcess
  pub one_is : slice_get (placed_parts first.words first.process) i ≡ Some one
  pub second_within : Within one second

-- two processes of a whole that can live together
abbrev pub Together : PlacedProcess → PlacedProcess → PlacedProcess → Type 0
Together whole first second = OfTwo whole first second ⊎ OfStarter whole first second

-- word n of the room, from 0, is one of the four of a process's own; this number of processes are below the program
pub record Owns (processes : ℕ) (one : PlacedProcess) (n : ℕ) : Type 0 where
  pub from : 4 * processes + 1 ≤ n + one.words.base
  pub to : n + one.words.base ≤ 4 * processes + 4

-- how many words a process keeps while others can live: a PAR has two words
abbrev pub kept_words : CoreProcess → ℕ
kept_words p = if is_parallel p then 2 else process_temporaries p

-- word n of the room is one in which a process keeps something
pub record Keeps (processes : ℕ) (one : PlacedProcess) (n : ℕ) : Type 0 where
  pub from : 4 * processes + 4 + one.words.temporary ≤ n + one.words.base
  pub to : n + one.words.base < 4 * processes + 4 + one.words.temporary + kept_words one.process

-- a program's processes are apart, and in its room
pub record IsLaidOut (variables : ℕ) (p : CoreProcess) : Type 0 where
  pub own : (first second : PlacedProcess) (n : ℕ) → Together (placed (program_words variables) p) first second
      → Owns (processes_below p) first n → Owns (processes_below p) second n → ⊥
  pub kept : (first second : PlacedProcess) (n : ℕ) → Together (placed (program_words variables) p) first second
      → Keeps (processes_below p) first n → Keeps (processes_below p) second n → ⊥
  -- own words come before variable 0, and none before the room
  pub before : (one : PlacedProcess) → Within (placed (program_words variables) p) one
      → one.words.base ≤ 4 * processes_below p + 1
  pub variable : (one : PlacedProcess) (n : ℕ) → Within (placed (program_words variables) p) one
      → Owns (processes_below p) one n → n < 4 * processes_below p + 4
  -- what is kept comes after the variables, and none after the room
  pub after : (one : PlacedProcess) (n : ℕ) → Within (placed (program_words variables) p) one
      → Keeps (processes_below p) one n
      → (4 * processes_below p + 4 + variables ≤ n) × (n < 4 * processes_below p + 3 + workspace_words p variables)
  -- the program's start moves its workspace to word 0 of the frame, and with tables leaves as much space before them
  pub moved : workspace_move 0 (as_word (processes_below p)) ≡ 4 * processes_below p + 3
  pub space : (1 ⊕ as_word (processes_below p)) ⊗ 16 ≡ 4 * (4 * processes_below p + 4)

-- each program is laid out so, if all its words have numbers
abbrev pub ProcessesAreApart : Type 0
ProcessesAreApart =
    (variables : ℕ) (p : CoreProcess) → workspace_words p variables + 4 * processes_below p < 2 ^ 28
    → IsLaidOut variables p

-- The code of a PAR around its components, and the words of each.
-- Each component has four words of its own below those of the process that starts it: word 0 of its workspace, and the
-- three that the processor uses below it. So the frame's words are as many words further up for it.
-- The operands of startp and endp: instruction set handbook, processes.
use Rattle.std.specs.Prelude.{ℕ, ◌+◌, ◌*◌, List, [], ◌∷◌, ◌++◌, flat_map, length}
use Rattle.node_memory.specs.Words.{◌⊕◌, ◌⊖◌, ◌⊗◌}
use Rattle.t414_assembly.specs.declared.statement.Statement.{Statement}
use Rattle.occam_core.specs.declared.process.CoreProcess.{CoreProcess}
use Rattle.occam_core.specs.declared.process.CoreProcess.TheVariants.{Parallel'}
use Rattle.occam_code.specs.declared.frame.FrameWords.{FrameWords}
use Rattle.occam_code.specs.Instructions as asm
use Rattle.occam_code.specs.Expressions.{code_places}
use Rattle.occam_code.specs.Words.{as_word, process_temporaries, processes_below}

-- the components of a PAR
abbrev pub components : CoreProcess → List CoreProcess
components (Parallel' p a q b) = a ∷ components b
components p = p ∷ []

-- by how many words the workspace of the next component is below that of a component
abbrev pub words_below : CoreProcess → ℕ
words_below p = as_word (processes_below p + 1) ⊗ 4

-- the words of the first component, of a PAR that has its two words at the first that is free
abbrev pub inside : FrameWords → FrameWords
inside words = record { base = words.base ⊕ 4; temporary = words.temporary ⊕ 2 ⊕ 4 }

-- the words of the component after one
abbrev pub after_component : FrameWords → CoreProcess → FrameWords
after_component words p = record {
  base = words.base ⊕ words_below p;
  temporary = words.temporary ⊕ as_word (process_temporaries p) ⊕ words_below p;
}

-- a component's code, and its end, which goes on at word `next` if it is the last
abbrev pub component_code : ℕ → List Statement → List Statement
component_code next code = code ++ asm.ldlp next ∷ asm.endp ∷ []

-- the codes of a component and of those after it
abbrev pub component_codes : ℕ → ℕ → FrameWords → CoreProcess → (ℕ → FrameWords → List Statement)
    → (ℕ → ℕ → FrameWords → List (List Statement)) → List (List Statement)
component_codes place next words p first others =
    let code = component_code next (first place words) in
    code ∷ others (place + length code) (next ⊕ words_below p) (after_component words p)

-- how far it is from the end of each of some starts to the places
abbrev pub offsets_of : ℕ → List ℕ → List Statement
offsets_of start [] = []
offsets_of start (place ∷ places) = asm.ldc_distance place (start + 3) ∷ offsets_of (start + 3) places

-- each component is started, the first this number of words below
abbrev pub starts_code : ℕ → List Statement → List CoreProcess → List Statement
starts_code distance (offset ∷ offsets) (p ∷ ps) =
    offset ∷ asm.ldlp (0 ⊖ distance) ∷ asm.startp ∷ starts_code (distance ⊕ words_below p) offsets ps
starts_code distance _ _ = []

-- a PAR: where it goes on, how many processes are to end, the components' starts, its own end, the components, and
-- where it goes on
abbrev pub parallel_code : ℕ → FrameWords → List CoreProcess → (ℕ → List (List Statement)) → List Statement
parallel_code place words parts bodies =
    let next = words.temporary in
    let first = place + 3 * length parts + 7 in
    let codes = bodies first in
    asm.ldc_distance (first + length (flat_map (λ code. code) codes)) (place + 2) ∷ asm.ldpi ∷ asm.stl next
    ∷ asm.ldc (as_word (length parts + 1)) ∷ asm.stl (next ⊕ 1)
    ∷ (starts_code 4 (offsets_of (place + 5) (code_places 0 first codes)) parts
    ++ asm.ldlp next ∷ asm.endp ∷ (flat_map (λ code. code) codes ++ asm.ajw (0 ⊖ next) ∷ []))

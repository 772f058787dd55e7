-- What is said of a text in which lines are wrong.
use Rattle.std.specs.Prelude.{ℕ, ◌≡◌, ◌≢◌, ◌⊎◌, ◌+◌, ◌<◌, List, [], ◌∷◌, Option, Some, None, All, length, take, map, true, ◌↔◌}
use Rattle.std.specs.List.Sorted.{IsStrictlyIncreasing}
use Rattle.script_text.specs.Lines.{from_line}
use Rattle.script_text.specs.declared.numbered.NumberedLine.{NumberedLine}
use Rattle.t414_assembly.specs.declared.fault.Mismatch.{Mismatch}
use Rattle.t414_assembly.specs.declared.fault.TextFault.{TextFault}
use Rattle.t414_assembly.specs.declared.fault.TextFault.TheVariants as text_fault
use Rattle.t414_assembly.specs.declared.faults.FaultList.{FaultList}
use Rattle.t414_assembly.specs.declared.faults.ProgramFault.{ProgramFault}
use Rattle.t414_assembly.specs.declared.faults.ProgramFault.TheVariants as program_fault

-- the numbers of the lines with which something is wrong
abbrev pub wrong_lines : List (Option Mismatch) → List NumberedLine → List ℕ
wrong_lines (Some _ ∷ rest) (line ∷ lines) = line.number ∷ wrong_lines rest lines
wrong_lines (None ∷ rest) (line ∷ lines) = wrong_lines rest lines
wrong_lines _ _ = []

-- a text has a line of this number, from 1; the first is there even if the text is empty
abbrev pub HasLine : List ℕ → ℕ → Type 0
HasLine text number = (k : ℕ) × (number ≡ k + 1) × ((k ≡ 0) ⊎ (from_line k text ≢ []))

-- Some lines of the text are wrong. The list has the first twenty of them, each once and in their order, and says
-- whether there are more.
pub record AreFaultsOf (text : List ℕ) (list : FaultList) : Type 0 where
  pub wrong : List ℕ
  pub some : 0 < length wrong
  pub lines : All (HasLine text) wrong
  pub order : IsStrictlyIncreasing wrong
  pub first : map (λ fault. fault.line) list.faults.items ≡ take 20 wrong
  pub more : (list.has_more ≡ true) ↔ (20 < length wrong)

-- why a text is no program: its lines are wrong, or memory is missing, which says nothing of the text
abbrev pub IsProgramFaultOf : List ℕ → ProgramFault → Type 0
IsProgramFaultOf text (program_fault.Wrong list) = AreFaultsOf text list
IsProgramFaultOf text program_fault.NoMemory = Unit {0}

-- the same of one fault alone: it is of a line of the text
abbrev pub IsTextFaultOf : List ℕ → TextFault → Type 0
IsTextFaultOf text (text_fault.Wrong fault) = HasLine text fault.line
IsTextFaultOf text (text_fault.Memory _) = Unit {0}

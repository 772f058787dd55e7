-- A script: its lines. Empty lines and lines that begin with `#` ask nothing.
use Rattle.std.specs.Prelude.{◌≡◌, ◌+◌, ◌++◌, ℕ, List, ◌∷◌, false, not, length, ⊤}
use Rattle.std.specs.List.{AllZip, filter}
use Rattle.script_text.specs.Lines.{asks_nothing}
use Rattle.script_lines.specs.declared.fault.LineFault.{LineFault}
use Rattle.script_lines.specs.declared.fault.ScriptFault.{ScriptFault}
use Rattle.script_lines.specs.declared.fault.ScriptFault.TheVariants.{Line, NoMemory}
use Rattle.script_lines.specs.declared.script.ScriptLine.{ScriptLine}
use Rattle.script_lines.specs.Words.{words_between}
use Rattle.script_lines.specs.Lines.{AskFor, IsLineFault}

-- the lines that ask something
abbrev pub asking : List (List ℕ) → List (List ℕ)
asking lines = filter (λ line. not (asks_nothing line)) lines

-- a line asks this of its user
abbrev pub IsAsked : List (List ℕ) → List ℕ → ScriptLine → Type 0
IsAsked names line l = AskFor names (words_between line) l.user l.command

-- the lines ask exactly this, in order
abbrev pub IsScript : List (List ℕ) → List (List ℕ) → List ScriptLine → Type 0
IsScript names lines asked = AllZip (IsAsked names) (asking lines) asked

-- the lines before this one can be read; it asks something, and this is wrong with it. The first line is number 1.
pub record IsFirstFault (names lines : List (List ℕ)) (number : ℕ) (fault : LineFault) : Type 0 where
  pub before : List (List ℕ)
  pub line : List ℕ
  pub after : List (List ℕ)
  pub asked : List ScriptLine
  pub parts : lines ≡ before ++ line ∷ after
  pub count : number ≡ length before + 1
  pub readable : IsScript names before asked
  pub asks : asks_nothing line ≡ false
  pub wrong : IsLineFault names (words_between line) fault

-- why the lines aren't read
abbrev pub IsScriptFault : List (List ℕ) → List (List ℕ) → ScriptFault → Type 0
IsScriptFault names lines (Line number fault) = IsFirstFault names lines number fault
IsScriptFault names lines NoMemory = ⊤

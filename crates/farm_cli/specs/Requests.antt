-- What a text asks of the program: a plan, and a script for its users.
use Rattle.std.specs.Prelude.{ℕ, List}
use Rattle.std.specs.Str.Lines.{lines}
use Rattle.plan_rules.specs.Data.{DomainData}
use Rattle.plan_rules.specs.Users.{all_names}
use Rattle.plan_checker.specs.Accepting.{IsAcceptedText}
use Rattle.script_text.specs.Lines.{IsDivided, plan_end}
use Rattle.script_lines.specs.declared.script.ScriptLine.{ScriptLine}
use Rattle.script_lines.specs.Script.{IsScript}

-- the parts of a text, before and after its first line `---`, are so
abbrev pub IsPartedText : List ℕ → (List ℕ → List ℕ → Type 0) → Type 0
IsPartedText text AreSo =
    (plan_text script : List ℕ) × IsDivided text plan_end plan_text script × AreSo plan_text script

-- a text gives this plan, and its script's lines ask this, each for one of the plan's users
abbrev pub IsTextOf : List ℕ → List DomainData → List ScriptLine → Type 0
IsTextOf text plan asked =
    IsPartedText text
    (λ plan_text script. IsAcceptedText plan_text plan × IsScript (all_names plan) (lines script) asked)

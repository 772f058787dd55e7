-- Why a text has no output, and what is written about it.
use Rattle.std.specs.Prelude.{◌≡◌, ◌++◌, ℕ, List, true, Option, codes, ⊤}
use Rattle.std.specs.Fmt.{decimal}
use Rattle.std.specs.Io.KnownBytes.{Appends}
use Rattle.std.specs.Str.Lines.{lines}
use Rattle.plan_rules.specs.Data.{DomainData}
use Rattle.plan_rules.specs.Fault.{plan_fault_number}
use Rattle.plan_rules.specs.Users.{all_names}
use Rattle.plan_rules.specs.declared.fault.PlanFault.{PlanFault}
use Rattle.plan_rules.specs.declared.fault.PlanFault.TheVariants.{NoMemory}
use Rattle.plan_checker.specs.Accepting.{IsAcceptedText, IsRefusedPlan}
use Rattle.script_text.specs.Writing.{AppendsBeginning}
use Rattle.script_text.specs.declared.reading.ReadFault.{ReadFault}
use Rattle.script_text.specs.declared.reading.ReadFault.TheVariants as input
use Rattle.script_lines.specs.declared.fault.LineFault.{LineFault}
use Rattle.script_lines.specs.declared.fault.ScriptFault.{ScriptFault}
use Rattle.script_lines.specs.declared.fault.ScriptFault.TheVariants as script
use Rattle.script_lines.specs.Faults.{fault_word}
use Rattle.script_lines.specs.Script.{IsFirstFault}
use Rattle.farm_cli.specs.declared.failure.FarmFailure.{FarmFailure}
use Rattle.farm_cli.specs.declared.failure.FarmFailure.TheVariants.{Plan, Line, Memory, Io}
use Rattle.farm_cli.specs.declared.failure.Ending.{Ending}
use Rattle.farm_cli.specs.Requests.{IsPartedText}

-- why a plan's text has no plan. If memory ran out nothing is said of the text
abbrev pub IsPlanFailure : List ℕ → FarmFailure → Type 0
IsPlanFailure text (Plan fault) = IsRefusedPlan text fault
IsPlanFailure text Memory = ⊤
IsPlanFailure text failure = ⊥

-- why the lines of a script aren't read
abbrev pub IsScriptFailure : List (List ℕ) → List (List ℕ) → FarmFailure → Type 0
IsScriptFailure names script_lines (Line number fault) = IsFirstFault names script_lines number fault
IsScriptFailure names script_lines Memory = ⊤
IsScriptFailure names script_lines failure = ⊥

-- a script is refused: the plan's text is accepted, and this is the first line that is wrong, the first being number 1
abbrev pub IsRefusedScript : List ℕ → List ℕ → ℕ → LineFault → Type 0
IsRefusedScript plan_text rest number fault =
    (plan : List DomainData) × IsAcceptedText plan_text plan × IsFirstFault (all_names plan) (lines rest) number fault

-- why a text has no output. Of memory and of streams nothing is said
abbrev pub IsFailure : List ℕ → FarmFailure → Type 0
IsFailure text (Plan fault) = IsPartedText text (λ plan_text rest. IsRefusedPlan plan_text fault)
IsFailure text (Line number fault) = IsPartedText text (λ plan_text rest. IsRefusedScript plan_text rest number fault)
IsFailure text Memory = ⊤
IsFailure text Io = ⊤

-- what an input that isn't read ends a run by
abbrev pub failure_of_input : ReadFault → FarmFailure
failure_of_input input.Failed = Io
failure_of_input input.NoMemory = Memory

-- an input isn't read: it failed, or there is no memory
abbrev pub IsInputFailure : FarmFailure → Type 0
IsInputFailure Memory = ⊤
IsInputFailure Io = ⊤
IsInputFailure failure = ⊥

-- what a refusal of the plan's reader or of the checker ends it by
abbrev pub failure_of_plan : PlanFault → FarmFailure
failure_of_plan NoMemory = Memory
failure_of_plan fault = Plan fault

-- the same of the script's reader
abbrev pub failure_of_script : ScriptFault → FarmFailure
failure_of_script (script.Line number fault) = Line number fault
failure_of_script script.NoMemory = Memory

-- the status of a run that ends without its output
abbrev pub failure_status : FarmFailure → ℕ
failure_status (Plan fault) = 3
failure_status (Line number fault) = 4
failure_status Memory = 5
failure_status Io = 6

-- what is written to standard error
abbrev pub failure_text : FarmFailure → List ℕ
failure_text (Plan fault) = codes "plan: " ++ decimal (plan_fault_number fault) ++ codes "\n"
failure_text (Line number fault) = codes "line " ++ decimal number ++ codes ": " ++ fault_word fault ++ codes "\n"
failure_text Memory = codes "memory\n"
failure_text Io = codes "io\n"

-- a text is written: all of it, if the ending says so, and else a beginning of it
pub record Tells (text : List ℕ) (ending : Ending) (before after : Option (List ℕ)) : Type 0 where
  pub whole : ending.stderr_written ≡ true → Appends before after text
  pub begun : AppendsBeginning before after text

-- a run ends by a failure: by its status, and by its text on standard error, or by a beginning of it if a write failed
pub record EndsBy (failure : FarmFailure) (ending : Ending) (errors_before errors_after : Option (List ℕ))
    : Type 0 where
  pub status_of : ending.status ≡ failure_status failure
  pub text_of : Tells (failure_text failure) ending errors_before errors_after

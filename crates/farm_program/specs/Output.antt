-- What the program prints of a text.
use Rattle.std.specs.Prelude.{◌≡◌, ◌⊎◌, ℕ, List, Option, Some, slice_get}
use Rattle.std.specs.List.{concat}
use Rattle.std.specs.Io.KnownBytes.{Appends, Keeps}
use Rattle.plan_rules.specs.Data.{DomainData}
use Rattle.plan_rules.specs.Part.{PartData, part_of}
use Rattle.domain_core.specs.PrivateFarm.{State}
use Rattle.domain_core.specs.Journal.{AnsweredCall, IsHistory}
use Rattle.whole_farm.specs.Places.{places_of}
use Rattle.script_text.specs.Writing.{AppendsBeginning}
use Rattle.script_lines.specs.declared.script.ScriptLine.{ScriptLine}
use Rattle.farm_service.specs.declared.closed.ClosedDomain.{ClosedDomain}
use Rattle.farm_service.specs.Closed.{AreDomainsOf, EachMergeRuns, AllAreRightlyAsked, history_of}
use Rattle.farm_cli.specs.Requests.{IsTextOf}
use Rattle.farm_program.specs.Screens.{AreScreens}

-- a farm that holds one domain alone gives exactly these answers from its opening on
abbrev pub IsAnsweredAlone : PartData → List AnsweredCall → Type 0
IsAnsweredAlone part history = (s : State) × IsHistory part history s

-- so it is with the history of each domain of the plan
abbrev pub AreAnsweredAlone : List DomainData → List ClosedDomain → Type 0
AreAnsweredAlone plan closed =
    (domain : ℕ) (d : DomainData) (c : ClosedDomain) → slice_get plan domain ≡ Some d
    → slice_get closed domain ≡ Some c → IsAnsweredAlone (part_of d) (history_of c)

-- a text asks for this output. There is a history for each domain of its plan, which a farm that holds this domain
-- alone answers; in it users asked for commands, and the farm itself for Steps and Moves; any merge of them is a run of
-- the whole farm. Each user has a screen, of the user's own lines over the user's own commands in the history of the
-- user's domain; and the output is the screens, one after another
pub record IsOutput (text out : List ℕ) : Type 0 where
  pub plan : List DomainData
  pub asked : List ScriptLine
  pub closed : List ClosedDomain
  pub screens : List (List ℕ)
  pub text_of : IsTextOf text plan asked
  pub domains : AreDomainsOf plan closed
  pub alone : AreAnsweredAlone plan closed
  pub askers : AllAreRightlyAsked closed
  pub runs : EachMergeRuns (places_of plan) closed
  pub shown : AreScreens plan asked closed screens
  pub whole : out ≡ concat screens

-- standard output gains such an output, and nothing else
abbrev pub Prints : List ℕ → Option (List ℕ) → Option (List ℕ) → Type 0
Prints text before after = (out : List ℕ) × IsOutput text out × Appends before after out

-- standard output stays, or gains a beginning of such an output
abbrev pub PrintsBeginning : List ℕ → Option (List ℕ) → Option (List ℕ) → Type 0
PrintsBeginning text before after =
    Keeps before after ⊎ ((out : List ℕ) × IsOutput text out × AppendsBeginning before after out)

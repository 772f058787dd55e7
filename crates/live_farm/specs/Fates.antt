-- What becomes of a line that was read: who is asked what, or who is answered why it isn't done.
use Rattle.std.specs.Prelude.{◌≡◌, ◌==◌, ℕ, Bool, true, false, List, [], ◌∷◌, Option, Some, None}
use Rattle.script_text.specs.Lines.{line_of, asks_nothing}
use Rattle.script_lines.specs.Words.{words_between}
use Rattle.script_lines.specs.Lines.{BeginsWith}
use Rattle.script_text.specs.declared.input_line.InputLine.{InputLine}
use Rattle.script_text.specs.declared.input_line.InputLine.TheVariants as input
use Rattle.live_lines.specs.declared.asked.LiveLine.TheVariants as live
use Rattle.live_lines.specs.declared.fault.LiveFault.{LiveFault}
use Rattle.live_lines.specs.declared.fault.LiveFault.TheVariants as live_fault
use Rattle.live_lines.specs.LiveLines.{is_operators, IsLiveLine, IsLiveFault}
use Rattle.live_farm.specs.declared.fate.LineFate.{LineFate}
use Rattle.live_farm.specs.declared.fate.LineFate.TheVariants as fate
use Rattle.live_farm.specs.declared.texts.NotDone.{NotDone}
use Rattle.live_farm.specs.declared.texts.NotDone.TheVariants as why

-- ---- a line that is known whole

-- who is answered what is wrong with it
abbrev pub IsFateOfFault : LiveFault → LineFate → Type 0
IsFateOfFault (live_fault.User user f) other = other ≡ fate.Refused user (why.Fault f)
IsFateOfFault (live_fault.NoMemory user) other = other ≡ fate.Refused user why.Memory
IsFateOfFault (live_fault.Operator f) other = other ≡ fate.OperatorRefused (why.Fault f)
IsFateOfFault live_fault.UnknownUser other = other ≡ fate.Nobodys

-- what becomes of a line that asks something or is wrong
abbrev pub IsFateOfText : List (List ℕ) → List ℕ → LineFate → Type 0
IsFateOfText names line (fate.Asks user request) = IsLiveLine names line (live.User user request)
IsFateOfText names line (fate.Operator request) = IsLiveLine names line (live.Operator request)
IsFateOfText names line other = (f : LiveFault) × IsLiveFault names line f × IsFateOfFault f other

-- it is passed over if it is empty or a comment
abbrev pub IsFateOfLine : List (List ℕ) → List ℕ → LineFate → Type 0
IsFateOfLine names line fate.PassedOver = asks_nothing line ≡ true
IsFateOfLine names line other = (asks_nothing line ≡ false) × IsFateOfText names line other

-- ---- a line if only its beginning is known

-- it is a comment, whatever follows
abbrev pub begins_comment : List ℕ → Bool
begins_comment [] = false
begins_comment (byte ∷ beginning) = byte == 35

-- its first word is the name of this user, and a blank comes after it, whatever follows
abbrev pub IsCalledBy : List (List ℕ) → List ℕ → ℕ → Type 0
IsCalledBy names beginning user =
    (next : List ℕ) × (rest : List (List ℕ)) × BeginsWith names (words_between beginning) user (next ∷ rest)

-- this is the user whom it so names, or there is none
abbrev pub IsWhose : List (List ℕ) → List ℕ → Option ℕ → Type 0
IsWhose names beginning None = (user : ℕ) → ¬ IsCalledBy names beginning user
IsWhose names beginning (Some user) = IsCalledBy names beginning user

-- who is answered, for this reason, if it is no comment
abbrev pub IsBeginningRefused : List (List ℕ) → List ℕ → NotDone → LineFate → Type 0
IsBeginningRefused names beginning w (fate.OperatorRefused reason) = (reason ≡ w) × (is_operators beginning ≡ true)
IsBeginningRefused names beginning w (fate.Refused user reason) =
    (reason ≡ w) × (is_operators beginning ≡ false) × IsCalledBy names beginning user
IsBeginningRefused names beginning w fate.Nobodys =
    (is_operators beginning ≡ false) × ((user : ℕ) → ¬ IsCalledBy names beginning user)
IsBeginningRefused names beginning w other = ⊥

-- only a comment is passed over
abbrev pub IsFateOfBeginning : List (List ℕ) → List ℕ → NotDone → LineFate → Type 0
IsFateOfBeginning names beginning w fate.PassedOver = begins_comment beginning ≡ true
IsFateOfBeginning names beginning w other =
    (begins_comment beginning ≡ false) × IsBeginningRefused names beginning w other

-- ---- what was read

-- what becomes of what was read: nothing follows its end, a line is done or answered, and one that isn't whole is
-- answered that it is too long, or that there was no memory for it
abbrev pub IsFate : List (List ℕ) → InputLine → LineFate → Type 0
IsFate names input.End f = f ≡ fate.End
IsFate names (input.Whole bytes) f = IsFateOfLine names (line_of bytes.items) f
IsFate names (input.Long bytes) f = IsFateOfBeginning names bytes.items why.Long f
IsFate names (input.NoMemory bytes) f = IsFateOfBeginning names bytes.items why.Memory f

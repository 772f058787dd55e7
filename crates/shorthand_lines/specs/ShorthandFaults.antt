-- What is wrong with the words after a shorthand verb.
use Rattle.std.specs.Prelude.{ℕ, List, [], ◌∷◌, ⊤}
use Rattle.script_lines.specs.Lines.{IsTargetNumber}
use Rattle.shorthand_lines.specs.declared.fault.ShorthandFault.{ShorthandFault}
use Rattle.shorthand_lines.specs.declared.fault.ShorthandFault.TheVariants as fault
use Rattle.shorthand_lines.specs.declared.verb.ShorthandVerb.{ShorthandVerb}
use Rattle.shorthand_lines.specs.declared.verb.ShorthandVerb.TheVariants as shorthand
use Rattle.shorthand_lines.specs.QuotedTexts.{IsQuotedText}
use Rattle.shorthand_lines.specs.ShorthandLines.{IsPortNumber, with_blanks}

-- this is wrong with the words after a shorthand verb, or there is no memory for what they may ask
abbrev pub IsShorthandFault : ShorthandVerb → List (List ℕ) → ShorthandFault → Type 0
IsShorthandFault shorthand.Join [] fault.TooFewWords = ⊤
IsShorthandFault shorthand.Join (first ∷ []) fault.TooFewWords = ⊤
IsShorthandFault shorthand.Join (first ∷ []) fault.FirstPort = ¬ IsPortNumber first
IsShorthandFault shorthand.Join (first ∷ second ∷ []) fault.FirstPort = ¬ IsPortNumber first
IsShorthandFault shorthand.Join (first ∷ second ∷ []) fault.SecondPort = ¬ IsPortNumber second
IsShorthandFault shorthand.Join (first ∷ second ∷ []) fault.NoMemory = IsPortNumber first × IsPortNumber second
IsShorthandFault shorthand.Join (first ∷ second ∷ third ∷ more) fault.TooManyWords = ⊤
IsShorthandFault shorthand.Send [] fault.TooFewWords = ⊤
IsShorthandFault shorthand.Send (place ∷ pieces) fault.Host = ¬ IsTargetNumber place
IsShorthandFault shorthand.Send (place ∷ pieces) fault.Text = (bytes : List ℕ)
    → ¬ IsQuotedText (with_blanks pieces) bytes
IsShorthandFault shorthand.Send (place ∷ pieces) fault.NoMemory = IsTargetNumber place
IsShorthandFault shorthand.Send (place ∷ []) fault.TooFewWords = ⊤
IsShorthandFault shorthand.Text [] fault.TooFewWords = ⊤
IsShorthandFault shorthand.Text (place ∷ []) fault.Host = ¬ IsTargetNumber place
IsShorthandFault shorthand.Text (place ∷ second ∷ more) fault.TooManyWords = ⊤
IsShorthandFault verb words wrong = ⊥

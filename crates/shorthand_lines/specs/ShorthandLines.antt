-- What a user asks by a shorthand line: `USER join P Q`, `USER send HOST "TEXT"` or `USER text HOST`. Each asks what
-- some plain line asks.
use Rattle.std.specs.Prelude.{◌≡◌, ◌<◌, ℕ, List, [], ◌∷◌}
use Rattle.std.specs.List.{join_with_byte}
use Rattle.script_lines.specs.declared.command.Command.{Command}
use Rattle.script_lines.specs.declared.command.Command.TheVariants as command
use Rattle.script_lines.specs.Words.{IsDecimal}
use Rattle.shorthand_lines.specs.declared.verb.ShorthandVerb.{ShorthandVerb}
use Rattle.shorthand_lines.specs.declared.verb.ShorthandVerb.TheVariants as shorthand
use Rattle.shorthand_lines.specs.ShorthandVerbs.{shorthand_name}
use Rattle.shorthand_lines.specs.QuotedTexts.{IsQuotedText}

-- a word spells the number of a port: a decimal number from 0 to 31, since a switch has 32 ports (IMS C004 data sheet)
pub record IsPort (word : List ℕ) (port : ℕ) : Type 0 where
  pub decimal : IsDecimal word port
  pub small : port < 32

-- a word spells the number of some port
abbrev pub IsPortNumber : List ℕ → Type 0
IsPortNumber word = (port : ℕ) × IsPort word port

-- the configuration bytes that connect two ports in both directions and make them ready
-- IMS C004 data sheet, configuration messages 1 and 3
abbrev pub joining : ℕ → ℕ → List ℕ
joining one other = 0x01 ∷ one ∷ other ∷ 0x03 ∷ []

-- words with a blank between each two
abbrev pub with_blanks : List (List ℕ) → List ℕ
with_blanks words = join_with_byte 32 words

-- a shorthand verb asks this with the words after it
abbrev pub ShorthandAsks : ShorthandVerb → List (List ℕ) → Command → Type 0
ShorthandAsks shorthand.Join (first ∷ second ∷ []) (command.Config bytes) =
    (one other : ℕ) × IsPort first one × IsPort second other × (bytes.items ≡ joining one other)
ShorthandAsks shorthand.Send (place ∷ pieces) (command.Write host bytes) =
    IsDecimal place host × IsQuotedText (with_blanks pieces) bytes.items
ShorthandAsks shorthand.Text (place ∷ []) (command.Collect host) = IsDecimal place host
ShorthandAsks verb arguments c = ⊥

-- the words after a user's name are a shorthand verb, and these after it
abbrev pub IsShorthand : List (List ℕ) → ShorthandVerb → List (List ℕ) → Type 0
IsShorthand rest verb arguments = rest ≡ shorthand_name verb ∷ arguments

-- the words after a user's name ask this by a shorthand verb
pub record AsksByShorthand (rest : List (List ℕ)) (c : Command) : Type 0 where
  pub verb : ShorthandVerb
  pub arguments : List (List ℕ)
  pub of_verb : IsShorthand rest verb arguments
  pub asked : ShorthandAsks verb arguments c

-- the words after a user's name begin with a shorthand verb, and ask nothing by it
abbrev pub ShorthandAsksNothing : List (List ℕ) → Type 0
ShorthandAsksNothing rest =
    (verb : ShorthandVerb) × (arguments : List (List ℕ)) × IsShorthand rest verb arguments
    × ((c : Command) → ¬ ShorthandAsks verb arguments c)

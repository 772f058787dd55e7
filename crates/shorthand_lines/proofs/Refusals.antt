-- Words that are no port's number, the words after the host's number of `send`, and that nothing is asked where a fault
-- was found: for `port_number`, `parse_send` and `parse_shorthand`.
use Rattle.std.proofs.Common.{◌≡◌, ◌≢◌, ◌≤◌, ℕ, List, [], ◌∷◌, Ok, Err, refl, sym, ap, ◌∙◌, subst, arith}
use Rattle.std.specs.Prelude.{IfErr, Result}
use Rattle.std.specs.List.{join_with_byte}
use Rattle.std.proofs.lemmas.List.Splits.{join_with_byte-slice_split}
use Rattle.script_lines.specs.declared.command.Command.{Command}
use Rattle.script_lines.specs.declared.command.Command.TheVariants as command
use Rattle.script_lines.specs.Words.{IsDecimal, words_between}
use Rattle.script_lines.specs.Lines.{IsTargetNumber}
use Rattle.shorthand_lines.specs.declared.fault.ShorthandFault.{ShorthandFault}
use Rattle.shorthand_lines.specs.declared.fault.ShorthandFault.TheVariants as fault
use Rattle.shorthand_lines.specs.declared.verb.ShorthandVerb.{ShorthandVerb}
use Rattle.shorthand_lines.specs.declared.verb.ShorthandVerb.TheVariants as shorthand
use Rattle.shorthand_lines.specs.QuotedTexts.{IsQuotedText}
use Rattle.shorthand_lines.specs.ShorthandLines.{IsPortNumber, with_blanks, ShorthandAsks}
use Rattle.shorthand_lines.specs.ShorthandFaults.{IsShorthandFault}

-- ---- a port's number

-- a word that spells no number up to 255 is no port's number
pub no_port_unless_decimal : (word : List ℕ) → ¬ IsTargetNumber word → ¬ IsPortNumber word
no_port_unless_decimal word none is = none (is.0, is.1.decimal)

-- neither is one that spells a number of 32 or more
pub no_port_past_the_last : (word : List ℕ) (number : ℕ) → IsDecimal word number → 32 ≤ number
    → ¬ IsPortNumber word
no_port_past_the_last word number decimal great is =
    omega (arith, decimal.value, is.1.decimal.value, is.1.small, great)

-- ---- the rest of a line

-- the words between the blanks of a text, with blanks between them again, are the text
pub blanks_again : (text : List ℕ) (pieces : List (List ℕ)) → pieces ≡ words_between text → with_blanks pieces ≡ text
blanks_again text pieces divided = ap (join_with_byte 32) divided ∙ join_with_byte-slice_split 32 text

-- if a text in quotes means these bytes, its words with blanks between them mean them
pub quoted_again : (text bytes : List ℕ) (pieces : List (List ℕ)) → pieces ≡ words_between text
    → IsQuotedText text bytes
    → IsQuotedText (with_blanks pieces) bytes
quoted_again text bytes pieces divided is =
    subst (λ it. IsQuotedText it bytes) (sym (blanks_again text pieces divided)) is

-- if it means none, neither do its words
pub unquoted_again : (text : List ℕ) (pieces : List (List ℕ)) → pieces ≡ words_between text
    → ((bytes : List ℕ) → ¬ IsQuotedText text bytes) → (bytes : List ℕ)
    → ¬ IsQuotedText (with_blanks pieces) bytes
unquoted_again text pieces divided none bytes is =
    none bytes (subst (λ it. IsQuotedText it bytes) (blanks_again text pieces divided) is)

-- ---- nothing is asked

join_asks_ports : (first second : List ℕ) (c : Command) → ShorthandAsks shorthand.Join (first ∷ second ∷ []) c
    → IsPortNumber first × IsPortNumber second
join_asks_ports first second (command.Config bytes) asked = ((asked.0, asked.2), (asked.1, asked.3))
join_asks_ports first second (command.Write host bytes) asked = absurd asked
join_asks_ports first second (command.Boot host code) asked = absurd asked
join_asks_ports first second (command.Poke host address word) asked = absurd asked
join_asks_ports first second (command.Peek host address) asked = absurd asked
join_asks_ports first second (command.Collect host) asked = absurd asked
join_asks_ports first second (command.Reset node) asked = absurd asked
join_asks_ports first second (command.Look node) asked = absurd asked

send_asks_a_host : (place : List ℕ) (pieces : List (List ℕ)) (c : Command)
    → ShorthandAsks shorthand.Send (place ∷ pieces) c
    → IsTargetNumber place × ((bytes : List ℕ) × IsQuotedText (with_blanks pieces) bytes)
send_asks_a_host place pieces (command.Config bytes) asked = absurd asked
send_asks_a_host place pieces (command.Write host bytes) asked = ((host, asked.0), (bytes.items, asked.1))
send_asks_a_host place pieces (command.Boot host code) asked = absurd asked
send_asks_a_host place pieces (command.Poke host address word) asked = absurd asked
send_asks_a_host place pieces (command.Peek host address) asked = absurd asked
send_asks_a_host place pieces (command.Collect host) asked = absurd asked
send_asks_a_host place pieces (command.Reset node) asked = absurd asked
send_asks_a_host place pieces (command.Look node) asked = absurd asked

text_asks_a_host : (place : List ℕ) (c : Command) → ShorthandAsks shorthand.Text (place ∷ []) c → IsTargetNumber place
text_asks_a_host place (command.Config bytes) asked = absurd asked
text_asks_a_host place (command.Write host bytes) asked = absurd asked
text_asks_a_host place (command.Boot host code) asked = absurd asked
text_asks_a_host place (command.Poke host address word) asked = absurd asked
text_asks_a_host place (command.Peek host address) asked = absurd asked
text_asks_a_host place (command.Collect host) asked = (host, asked)
text_asks_a_host place (command.Reset node) asked = absurd asked
text_asks_a_host place (command.Look node) asked = absurd asked

no_text_in_nothing : (bytes : List ℕ) → ¬ IsQuotedText [] bytes
no_text_in_nothing bytes is = cc (is.quotes)

join_nothing : (arguments : List (List ℕ)) (wrong : ShorthandFault) (c : Command)
    → IsShorthandFault shorthand.Join arguments wrong → wrong ≢ fault.NoMemory
    → ¬ ShorthandAsks shorthand.Join arguments c
join_nothing arguments fault.NoMemory c is named asked = named refl
join_nothing [] wrong c is named asked = asked
join_nothing (first ∷ []) wrong c is named asked = asked
join_nothing (first ∷ second ∷ []) fault.FirstPort c is named asked = is (join_asks_ports first second c asked).0
join_nothing (first ∷ second ∷ []) fault.SecondPort c is named asked = is (join_asks_ports first second c asked).1
join_nothing (first ∷ second ∷ []) wrong c is named asked = is
join_nothing (first ∷ second ∷ third ∷ more) wrong c is named asked = asked

send_nothing : (arguments : List (List ℕ)) (wrong : ShorthandFault) (c : Command)
    → IsShorthandFault shorthand.Send arguments wrong → wrong ≢ fault.NoMemory
    → ¬ ShorthandAsks shorthand.Send arguments c
send_nothing arguments fault.NoMemory c is named asked = named refl
send_nothing [] wrong c is named asked = asked
send_nothing (place ∷ pieces) fault.Host c is named asked = is (send_asks_a_host place pieces c asked).0
send_nothing (place ∷ pieces) fault.Text c is named asked =
    let text = (send_asks_a_host place pieces c asked).1 in is text.0 text.1
send_nothing (place ∷ []) fault.TooFewWords c is named asked =
    let text = (send_asks_a_host place [] c asked).1 in no_text_in_nothing text.0 text.1
send_nothing (place ∷ pieces) wrong c is named asked = is

text_nothing : (arguments : List (List ℕ)) (wrong : ShorthandFault) (c : Command)
    → IsShorthandFault shorthand.Text arguments wrong → wrong ≢ fault.NoMemory
    → ¬ ShorthandAsks shorthand.Text arguments c
text_nothing arguments fault.NoMemory c is named asked = named refl
text_nothing [] wrong c is named asked = asked
text_nothing (place ∷ []) fault.Host c is named asked = is (text_asks_a_host place c asked)
text_nothing (place ∷ []) wrong c is named asked = is
text_nothing (place ∷ second ∷ more) wrong c is named asked = asked

-- if a fault is found, and it isn't that there is no memory, nothing is asked
help_nothing : (verb : ShorthandVerb) (arguments : List (List ℕ)) (wrong : ShorthandFault) (c : Command)
    → IsShorthandFault verb arguments wrong → wrong ≢ fault.NoMemory
    → ¬ ShorthandAsks verb arguments c
help_nothing shorthand.Join arguments wrong c is named = join_nothing arguments wrong c is named
help_nothing shorthand.Send arguments wrong c is named = send_nothing arguments wrong c is named
help_nothing shorthand.Text arguments wrong c is named = text_nothing arguments wrong c is named

-- if what is read is a fault, and not that there is no memory, nothing is asked
pub nothing_is_asked : (verb : ShorthandVerb) (arguments : List (List ℕ)) (outcome : Result Command ShorthandFault)
    → IfErr outcome (IsShorthandFault verb arguments)
    → IfErr outcome (λ f. f ≢ fault.NoMemory → (c : Command) → ¬ ShorthandAsks verb arguments c)
nothing_is_asked verb arguments (Ok c) wrong = tt
nothing_is_asked verb arguments (Err f) wrong = λ named c. help_nothing verb arguments f c wrong named

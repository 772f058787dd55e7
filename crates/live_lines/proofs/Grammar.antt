-- What the reading of a line rests on: the clauses `fault` of `parse_rest` and `parse_live_line`.
use Rattle.std.proofs.Common.{◌≡◌, ℕ, List, [], ◌∷◌, Ok, Err, false, inl, inr, sym, ap, subst, ◌∙◌}
use Rattle.std.specs.Prelude.{IfErr, Result}
use Rattle.script_lines.specs.declared.fault.LineFault.{LineFault}
use Rattle.script_lines.specs.declared.fault.LineFault.TheVariants as fault
use Rattle.script_lines.specs.Words.{words_between}
use Rattle.script_lines.specs.declared.command.Command.{Command}
use Rattle.script_lines.specs.Lines.{IsRestFault}
use Rattle.shorthand_lines.specs.declared.verb.ShorthandVerb.{ShorthandVerb}
use Rattle.shorthand_lines.specs.ShorthandVerbs.{shorthand_name}
use Rattle.shorthand_lines.specs.ShorthandLines.{IsShorthand, ShorthandAsks}
use Rattle.live_lines.specs.declared.asked.LiveLine.{LiveLine}
use Rattle.live_lines.specs.declared.fault.LiveFault.{LiveFault}
use Rattle.live_lines.specs.declared.fault.LiveFault.TheVariants as live_fault
use Rattle.live_lines.specs.declared.verbs.DomainVerb.{DomainVerb}
use Rattle.live_lines.specs.LiveVerbs.{domain_verb_name}
use Rattle.live_lines.specs.LiveLines.{is_operators, IsOfDomain, IsLiveRestFault, IsUserFault, IsLiveFault}

-- if the first word is no verb of a domain, the words ask nothing of the domain as a whole
pub not_of_domain : (rest behind : List (List ℕ)) (word : List ℕ)
    → rest ≡ word ∷ behind → ((v : DomainVerb) → ¬ (word ≡ domain_verb_name v))
    → (verb : DomainVerb) (arguments : List (List ℕ))
    → ¬ IsOfDomain rest verb arguments
not_of_domain rest behind word is none verb arguments of = none verb (ap (first word) (sym is ∙ of))
  where
    first : List ℕ → List (List ℕ) → List ℕ
    first d [] = d
    first d (x ∷ xs) = x

-- if it is no shorthand verb, the words ask nothing by one
pub not_of_help : (rest behind : List (List ℕ)) (word : List ℕ)
    → rest ≡ word ∷ behind → ((v : ShorthandVerb) → ¬ (word ≡ shorthand_name v))
    → (verb : ShorthandVerb) (arguments : List (List ℕ))
    → ¬ IsShorthand rest verb arguments
not_of_help rest behind word is none verb arguments of = none verb (ap (first word) (sym is ∙ of))
  where
    first : List ℕ → List (List ℕ) → List ℕ
    first d [] = d
    first d (x ∷ xs) = x

-- what a script refuses is refused, if its verb is none of the domain as a whole and no shorthand verb
pub live_refused : (rest : List (List ℕ)) (f : LineFault)
    → ((verb : DomainVerb) (arguments : List (List ℕ)) → ¬ IsOfDomain rest verb arguments)
    → ((verb : ShorthandVerb) (arguments : List (List ℕ)) → ¬ IsShorthand rest verb arguments)
    → IsRestFault rest f
    → IsLiveRestFault rest f
live_refused rest fault.User none no_help wrong = wrong
live_refused rest fault.Verb none no_help wrong = (wrong, none, no_help)
live_refused rest fault.Args none no_help wrong = inl wrong
live_refused rest fault.Hex none no_help wrong = wrong

-- if nothing is asked by a shorthand verb, the words after it are wrong
pub shorthand_refused : (rest arguments : List (List ℕ)) (verb : ShorthandVerb) (f : LineFault)
    → IsShorthand rest verb arguments
    → (f ≡ fault.Args) × ((c : Command) → ¬ ShorthandAsks verb arguments c)
    → IsLiveRestFault rest f
shorthand_refused rest arguments verb f of wrong =
    subst (IsLiveRestFault rest) (sym wrong.0) (inr (inr (verb, arguments, of, wrong.1)))

-- if a line isn't the operator's, what is wrong with it as a user's line is wrong with it
pub user_line_refused : (names : List (List ℕ)) (line : List ℕ) (words : List (List ℕ))
    (outcome : Result LiveLine LiveFault)
    → is_operators line ≡ false → words ≡ words_between line → IfErr outcome (IsUserFault names words)
    → IfErr outcome (IsLiveFault names line)
user_line_refused names line words (Ok l) theirs is wrong = tt
user_line_refused names line words (Err live_fault.UnknownUser) theirs is wrong =
    (theirs, subst (λ ws. IsUserFault names ws live_fault.UnknownUser) is wrong)
user_line_refused names line words (Err (live_fault.User user f)) theirs is wrong =
    (theirs, subst (λ ws. IsUserFault names ws (live_fault.User user f)) is wrong)
user_line_refused names line words (Err (live_fault.Operator f)) theirs is wrong = absurd wrong
user_line_refused names line words (Err (live_fault.NoMemory user)) theirs is wrong =
    (theirs, subst (λ ws. IsUserFault names ws (live_fault.NoMemory user)) is wrong)

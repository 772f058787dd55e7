use Rattle.std.proofs.Common.{ℕ, List, subst, sym}
use Rattle.shorthand_lines.specs.declared.fault.ShorthandFault.TheVariants as fault
use Rattle.shorthand_lines.specs.declared.verb.ShorthandVerb.TheVariants as shorthand
use Rattle.shorthand_lines.specs.QuotedTexts.{IsQuotedText}
use Rattle.shorthand_lines.specs.ShorthandFaults.{IsShorthandFault}
use Rattle.shorthand_lines.proofs.Refusals.{unquoted_again}
use Rattle.shorthand_lines.proofs.parsing.parse_send.Goals as goal

pub returns-in_default-found-clause-fault : goal.returns-in_default-found-clause-fault
returns-in_default-found-clause-fault c =
    let quoted = c.in-Some-rest_of_line.quoted.now in
    let none : (bytes : List ℕ) → ¬ IsQuotedText quoted bytes = rw c.in_default-found.is at c.in_ok-found.ensures in
    subst (λ it. IsShorthandFault shorthand.Send it fault.Text) (sym c.in-Some.ensures)
    (unquoted_again quoted c.take.new.self c.in-Some-rest_of_line.ensures none)

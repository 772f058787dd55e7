use Rattle.std.proofs.Common.{◌≡◌, ◌∷◌, rules}
use Rattle.script_lines.specs.declared.fault.LineFault.{LineFault}
use Rattle.script_lines.specs.declared.fault.Unread.TheVariants.{Faulty}
use Rattle.live_lines.specs.LiveLines.{IsLiveRestFault}
use Rattle.live_lines.proofs.Grammar.{not_of_domain, not_of_help, live_refused}
use Rattle.live_lines.proofs.parsing.parse_rest.Goals as goal

pub returns-in_err-parse_request-clause-fault : goal.returns-in_err-parse_request-clause-fault
returns-in_err-parse_request-clause-fault c =
    let first : c.args.words ≡ c.in-Some.word.now ∷ c.take.new.self = search rules in
    let none = not_of_domain c.args.words c.take.new.self c.in-Some.word.now first (search rules) in
    let no_help = not_of_help c.args.words c.take.new.self c.in-Some.word.now first (search rules) in
    let all : (f : LineFault) → c.in_err-parse_request.field-0.0 ≡ Faulty f → IsLiveRestFault c.args.words f =
    λ f told. live_refused c.args.words f none no_help (c.in_err-parse_request.ensures.fault f told) in
    search rules

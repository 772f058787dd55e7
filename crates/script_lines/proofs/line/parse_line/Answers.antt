use Rattle.std.proofs.Common.{◌≡◌, ◌∷◌, ℕ, List, Bor, map, rules}
use Rattle.script_lines.specs.declared.fault.LineFault.{LineFault}
use Rattle.script_lines.specs.declared.fault.Unread.TheVariants.{Faulty}
use Rattle.script_lines.specs.Lines.{BeginsWith, IsLineFault}
use Rattle.script_lines.specs.Words.{words_between}
use Rattle.script_lines.proofs.Arguments.{line_refused}
use Rattle.script_lines.proofs.line.parse_line.Goals as goal

pub returns-in_err-command-clause-fault : goal.returns-in_err-command-clause-fault
returns-in_err-command-clause-fault c =
    let names = map {A = Bor (List ℕ)} {B = List ℕ} (λ n. n.now) c.args.names.now in
    let line = words_between c.args.line.now in
    let first : line ≡ c.in-Some.name.now ∷ c.take.new.self = search rules in
    let begins : BeginsWith names line c.in-Some-user_named.user c.take.new.self =
    record { name = c.in-Some.name.now; first = first; named = search rules } in
    let all : (f : LineFault) → c.in_err-command.field-0.0 ≡ Faulty f → IsLineFault names line f =
    λ f told. line_refused names line _ _ f begins (c.in_err-command.ensures.fault f told) in
    search rules

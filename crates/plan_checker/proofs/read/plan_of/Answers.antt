use Rattle.std.proofs.Common.{◌≡◌, rules, ap, ◌∙◌, sym, Some, w64, SFits}
use Rattle.std.proofs.lemmas.Int.{to_z-of_z}
use Rattle.std.proofs.lemmas.Result.{err_from_is_err_and}
use Rattle.toml.specs.Data.{integer}
use Rattle.plan_checker.specs.Version.{version_number}
use Rattle.plan_checker.proofs.DocumentLemmas.{document_fields, number_fault}
use Rattle.plan_checker.proofs.read.plan_of.Goals as goal

pub returns-in_err-number : goal.returns-in_err-number
returns-in_err-number c =
    let p = err_from_is_err_and c.from_residual.result c.from_residual.ensures.1 in
    rw (p.1, p.2) (number_fault _ _ c.in_err-number.ensures)

pub returns-in_ok-domains-in-Some : goal.returns-in_ok-domains-in-Some
returns-in_ok-domains-in-Some c =
    let fits : SFits w64 c.in_ok-number.number = search rules in
    let known : version_number c.in-Some.version ≡ c.in_ok-number.number = c.in-Some.ensures ∙ to_z-of_z w64 _ fits in
    let fields =
    document_fields _ _ _ (c.has_fields.ensures.0 (search rules))
    c.in_ok-domains-in-Some.ensures.0 (c.in_ok-number.ensures.0 ∙ ap (λ z. Some (integer z)) (sym known)) in
    (c.in-Some.version, (fields, c.in_ok-domains-in-Some.ensures.1))

use Rattle.std.proofs.Common.{◌∙◌, ap, sym, Some, arith}
use Rattle.std.proofs.lemmas.Bool.Decides.{Decides-eqb, not_from_Decides}
use Rattle.std.proofs.lemmas.Option.{slice_get-map, slice_get-get_or, slice_get_within}
use Rattle.std.proofs.lemmas.Slice.Eq.{slice_eq-Decides}
use Rattle.std.proofs.lemmas.List.{length-map}
use Rattle.std.specs.Option.{option_map}
use Rattle.script_lines.proofs.Readings.{no_earlier_name}
use Rattle.script_lines.proofs.line.user_named.Goals as goal

pub returns-then-eq : goal.returns-then-eq
returns-then-eq c =
    let decides = slice_eq-Decides Decides-eqb _ _ _ c.eq.ensures in
    let names = c.args.names.now in
    let user = c.loop-user.user in
    slice_get-map (λ n. n.now) names user
    ∙ ap (option_map (λ n. n.now)) (slice_get-get_or names user _ c.loop-user-test.true)
    ∙ ap Some (sym c.as_bytes.ensures.value ∙ decides.0 c.if-eq.true)

pub loop-user-preserved : goal.loop-user-preserved
loop-user-preserved c =
    let decides = slice_eq-Decides Decides-eqb _ _ _ c.eq.ensures in
    let names = c.args.names.now in
    let user = c.loop-user.user in
    let here =
    slice_get-map (λ n. n.now) names user
    ∙ ap (option_map (λ n. n.now)) (slice_get-get_or names user _ c.loop-user-test.true)
    ∙ ap Some (sym c.as_bytes.ensures.value) in
    no_earlier_name _ _ user _ c.loop-user.invariant here (not_from_Decides _ decides c.if-eq.false)

pub returns : goal.returns
returns c = λ user is.
    let within = slice_get_within _ user _ is in
    c.loop-user.invariant user
    (omega (arith, within, c.loop-user-test.false, length-map c.args.names.now (λ n. n.now))) is

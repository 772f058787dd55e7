use Rattle.std.proofs.Common.{◌≡◌, ◌∙◌, Some, ap, sym, slice_get}
use Rattle.std.proofs.lemmas.Option.{slice_get-get_or}
use Rattle.live_farm.proofs.causes.explain_domain.Goals as goal

pub returns-in-Ok : goal.returns-in-Ok
returns-in-Ok g c =
    let sessions = c.args.group.now.sessions.items in
    let there : slice_get sessions c.args.user ≡ Some c.index-session.result.now =
    slice_get-get_or sessions c.args.user c.index-session.result.now c.requires.user
    ∙ ap Some (sym c.index-session.ensures) in
    c.in-Ok.ensures c.args.user there

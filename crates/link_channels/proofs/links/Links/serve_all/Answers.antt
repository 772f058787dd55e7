use Rattle.std.proofs.Common.{◌≡◌, false, sym}
use Rattle.link_channels.specs.Links.{any_has_work}
use Rattle.link_channels.proofs.LinksWithWork.{quiet-links, has_acted-serve_all}
use Rattle.link_channels.proofs.links.Links.serve_all.Goals as goal

pub returns-then-not-self-clause-answer : goal.returns-then-not-self-clause-answer
returns-then-not-self-clause-answer c =
    let e : any_has_work c.args.self.now ≡ false = rw (← c.self.view_is, ← c.self.invariant) c.if-not-self.true in
    sym (quiet-links _ _ _ e)

pub returns-clause-work : goal.returns-clause-work
returns-clause-work c =
    has_acted-serve_all c.serve_all-acted.result c.self.inside.links _ c.args.self.now _ _ _ _ c.self.view_is
    c.serve_all-acted.ensures.answer

use Rattle.std.proofs.Common.{◌≡◌, ◌<◌, ◌∙◌, Some, length, slice_get, sym, ap, rules}
use Rattle.std.proofs.lemmas.Option.{slice_get-get_or}
use Rattle.plan_rules.specs.Users.{name_at}
use Rattle.plan_rules.specs.declared.users.UserNumber.{UserNumber}
use Rattle.live_farm.specs.Names.{user_number_of}
use Rattle.live_farm.proofs.Members.{member_at}
use Rattle.live_farm.proofs.group.UserGroup.name.Goals as goal

pub returns : goal.returns
returns c =
    let group = c.args.self.now in
    let user = c.args.user in
    let plan = group.service.now.plan in
    let (session, there) = member_at group.sessions.items user c.requires in
    let within : user < length group.names.items = search rules in
    let here : slice_get group.names.items user ≡ Some c.index.result.now =
    slice_get-get_or group.names.items user c.index.result.now within ∙ ap Some (sym c.index.ensures) in
    let is = group.theirs user session there in
    let whose : user_number_of session.pass ≡ record { domain = group.domain; user = user } =
    λ k. record { domain = is.0 k; user = is.1 k } in
    record {
      session = session;
      there = there;
      whose = whose;
      called = ap (λ (number : UserNumber). name_at plan number) whose ∙ group.named user c.index.result.now here;
    }

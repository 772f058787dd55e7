use Rattle.std.proofs.Common.{◌≡◌, ◌<◌, ◌∙◌, Some, length, slice_get, refl, sym, ap, rules}
use Rattle.std.proofs.lemmas.Option.{slice_get-get_or}
use Rattle.live_farm.proofs.Members.{in_order_set}
use Rattle.live_farm.proofs.group.UserGroup.line_of.Goals as goal

pub invariant_of-self : goal.invariant_of-self
invariant_of-self g c =
    let group = c.args.self.now in
    let sessions = group.sessions.items in
    let within : c.args.user < length sessions = search rules in
    let there : slice_get sessions c.args.user ≡ Some c.index_mut.result.now =
    slice_get-get_or sessions c.args.user c.index_mut.result.now within ∙ ap Some (sym c.index_mut.ensures.value) in
    record {
      as_many = search rules;
      there = group.there;
      theirs =
          in_order_set group.domain c.args.user sessions c.index_mut.result.now c.answer_line.new.session there
          c.answer_line.ensures.list group.theirs;
      named = group.named;
    }

pub returns-clause-line : goal.returns-clause-line
returns-clause-line g c =
    let there : c.args.user < length c.args.self.now.sessions.items = search rules in
    record {
      name = c.name-name.result.now;
      entry = c.index_mut.result.now;
      exit = c.answer_line.new.session;
      named = c.name-name.ensures;
      session =
          slice_get-get_or c.args.self.now.sessions.items c.args.user c.index_mut.result.now there
          ∙ ap Some (sym c.index_mut.ensures.value);
      answered = search rules;
      sessions = refl;
      names = refl;
    }

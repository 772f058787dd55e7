use Rattle.std.proofs.Common.{◌≡◌, ◌++◌, ◌∙◌, List, false, length, take, drop, subst, sym, rules}
use Rattle.std.specs.Prelude.{is_ok}
use Rattle.farm_service.specs.Passes.{SessionValue}
use Rattle.farm_service.specs.Restarts.{AreInOrder, AreAllOfOne}
use Rattle.live_farm.proofs.Members.{as_many_after, if_refused, in_order_after, take_front}
use Rattle.live_farm.proofs.group.UserGroup.begin_anew.Goals as goal

pub invariant_of-self : goal.invariant_of-self
invariant_of-self g c =
    let group = c.args.self.now in
    let sessions = c.as_mut_slice.result.now in
    let same : sessions ≡ group.sessions.items = search rules in
    let theirs = subst (λ (ss : List SessionValue). AreInOrder group.domain ss) (sym same) group.theirs in
    let after = c.restart.new.sessions in
    let count : length sessions ≡ group.sessions.len = search rules in
    let left = drop (length after) group.sessions.items in
    let stays : take group.sessions.len (after ++ left) ≡ after =
    take_front group.sessions.len after left
    (as_many_after c.restart.result sessions after c.restart.ensures.done c.restart.ensures.err ∙ count) in
    record {
      as_many = search rules;
      there = group.there;
      theirs =
          subst (λ (ss : List SessionValue). AreInOrder group.domain ss) (sym stays)
          (in_order_after c.restart.result group.domain sessions after c.restart.ensures.done c.restart.ensures.err
          theirs);
      named = group.named;
    }

pub returns-clause-not_all : goal.returns-clause-not_all
returns-clause-not_all g c not_done =
    let group = c.args.self.now in
    let same : c.as_mut_slice.result.now ≡ group.sessions.items = search rules in
    let refused : is_ok c.restart.result ≡ false = search rules in
    subst (λ (ss : List SessionValue). ¬ AreAllOfOne group.service.now.plan ss) same
    (if_refused c.restart.result c.as_mut_slice.result.now c.restart.new.sessions refused c.restart.ensures.err
    c.restart.ensures.no_such.0)

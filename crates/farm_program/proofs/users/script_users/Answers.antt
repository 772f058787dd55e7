use Rattle.std.proofs.Common.{◌≡◌, ◌∙◌, refl, rules, ap, length}
use Rattle.std.proofs.lemmas.Iterator.Consumers.{YieldsList-turn, YieldsList-end}
use Rattle.std.proofs.lemmas.Iterator.Adapters.{YieldsList-from_vec}
use Rattle.plan_rules.specs.Users.{all_names}
use Rattle.farm_program.proofs.Openings.{place_within, user_more, all_users}
use Rattle.farm_program.proofs.users.script_users.Goals as goal

pub index-requires : goal.index-requires
index-requires c =
    let turn =
    YieldsList-turn
    (YieldsList-from_vec {s = c.into_iter-pass-iterator.result} c.args.passes.items (search rules) (search rules))
    c.loop-pass.yielded c.loop-pass.pass-iterator c.loop-pass.yielded_by c.next.result c.next.new.self c.in-Some.pass
    c.in-Some.is c.next.ensures.steps in
    let names = c.in_ok-names.ensures ∙ ap all_names c.plan.ensures in
    let count = c.loop-pass.invariant.count in
    let place : c.len-place.result ≡ length c.loop-pass.yielded = search rules in
    let within =
    place_within c.args.service.now.plan c.in_ok-names.names.items c.args.passes.items (length c.loop-pass.yielded)
    c.len-place.result turn.0 c.requires.passes names place in
    search rules

pub loop-pass-preserved : goal.loop-pass-preserved
loop-pass-preserved c =
    let turn =
    YieldsList-turn
    (YieldsList-from_vec {s = c.into_iter-pass-iterator.result} c.args.passes.items (search rules) (search rules))
    c.loop-pass.yielded c.loop-pass.pass-iterator c.loop-pass.yielded_by c.next.result c.next.new.self c.in-Some.pass
    c.in-Some.is c.next.ensures.steps in
    let names = c.in_ok-names.ensures ∙ ap all_names c.plan.ensures in
    let count = c.loop-pass.invariant.count in
    let place : c.len-place.result ≡ length c.loop-pass.yielded = search rules in
    let within =
    place_within c.args.service.now.plan c.in_ok-names.names.items c.args.passes.items (length c.loop-pass.yielded)
    c.len-place.result turn.0 c.requires.passes names place in
    user_more c.args.service.now.plan c.args.lines.now c.args.quantum.steps c.loop-pass.yielded c.in-Some.pass
    c.loop-pass.users.items c.push.new.self.items _ c.in_ok-names.names.items c.len-place.result
    c.loop-pass.invariant names place within refl c.index.ensures refl refl c.in_ok-push.ensures.items

pub returns : goal.returns
returns c =
    let end =
    YieldsList-end
    (YieldsList-from_vec {s = c.into_iter-pass-iterator.result} c.args.passes.items (search rules) (search rules))
    c.loop-pass.yielded c.loop-pass.pass-iterator c.loop-pass.yielded_by c.next.result c.next.new.self
    c.in-None.is c.next.ensures.steps in
    all_users c.args.service.now.plan c.args.lines.now c.args.quantum.steps c.loop-pass.yielded c.args.passes.items
    c.loop-pass.users.items c.loop-pass.invariant end.0 c.requires.passes c.requires.lines

use Rattle.std.proofs.Common.{◌≡◌, ◌<◌, ◌∙◌, rules, ap, map, length, get_or}
use Rattle.std.proofs.lemmas.List.{get_or-map, length-map, take_more_same}
use Rattle.live_farm.specs.Names.{user_number_of}
use Rattle.live_farm.proofs.farm_users.are_of.Goals as goal

pub loop-place-preserved : goal.loop-place-preserved
loop-place-preserved c =
    let place = c.loop-place.place in
    let numbers = c.args.numbers.now in
    let passes = c.args.passes.now in
    let pass = c.index-passes-place.result in
    let less : place < length numbers = search rules in
    let within : place < length passes = search rules in
    let mapped : place < length (map user_number_of passes) = rw (length-map passes user_number_of) within in
    let whose = get_or numbers place (user_number_of pass) in
    let domain : pass.domain ≡ whose.domain = search rules in
    let user : pass.user ≡ whose.user = search rules in
    let there : get_or passes place pass ≡ pass = search rules in
    take_more_same (map user_number_of passes) numbers place (user_number_of pass) mapped less c.loop-place.invariant
    (get_or-map user_number_of passes place pass (user_number_of pass) within ∙ ap user_number_of there
    ∙ (λ k. record { domain = domain k; user = user k }))

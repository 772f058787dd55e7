use Rattle.std.proofs.Common.{◌<◌, List, length, arith, refl, sym, subst}
use Rattle.domain_core.specs.Domain.{DomainValue}
use Rattle.whole_farm.specs.Places.{AreSeparatePlaces}
use Rattle.whole_farm.specs.Values.{all_places}
use Rattle.farm_core.proofs.Owners.{IsOwner, owner_read, within_farm, within_count, nobody_has, word_of_nobody}
use Rattle.farm_core.proofs.Owners.{word_of_owner, word_says, nothing_says, word_within}
use Rattle.farm_core.proofs.farm.PlainFarm.word.Goals as goal

pub returns-in_default-clause-owner : goal.returns-in_default-clause-owner
returns-in_default-clause-owner c = word_of_nobody c.args.self.now c.args.output _ (c.in_default.ensures.free refl)

pub returns-in_default-clause-whole : goal.returns-in_default-clause-whole
returns-in_default-clause-whole c = nothing_says c.args.self.now c.args.output _ (c.in_default.ensures.free refl) refl

pub index_mut-requires : goal.index_mut-requires
index_mut-requires c =
    let here = within_farm c.args.self.now c.in-Some.domain c.in-Some.number c.args.output c.in-Some.ensures.owned in
    let within : c.in-Some.domain < length c.self.inside.domains.items =
    subst (λ (ds : List DomainValue). c.in-Some.domain < length ds) (sym c.self.view_is) here in
    omega (arith, within, c.self.inside.domains.ok.0)

pub word-requires : goal.word-requires
word-requires c =
    let owner =
    owner_read c.self.inside.domains.items c.args.self.now c.in-Some.domain c.index_mut.result.now c.in-Some.number
    c.args.output c.self.view_is c.in-Some.ensures.owned c.index_mut.ensures.value in
    let separate =
    subst (λ (ds : List DomainValue). AreSeparatePlaces (all_places ds)) c.self.view_is c.self.invariant in
    within_count c.args.self.now c.in-Some.domain c.index_mut.result.now c.in-Some.number c.args.output separate
    owner.there owner.port

pub returns-clause-proper : goal.returns-clause-proper
returns-clause-proper c = (word_within _ _ _ c.word.ensures.row c.word.ensures.word).proper

-- the domain that is read has the output
owner : (c : goal.After-self-1)
    → IsOwner c.args.self.now c.in-Some.domain c.index_mut.result.now c.in-Some.number c.args.output
owner c =
    owner_read c.self.inside.domains.items c.args.self.now c.in-Some.domain c.index_mut.result.now c.in-Some.number
    c.args.output c.self.view_is c.in-Some.ensures.owned c.index_mut.ensures.value

separate : (c : goal.After-self-1) → AreSeparatePlaces (all_places c.args.self.now)
separate c = subst (λ (ds : List DomainValue). AreSeparatePlaces (all_places ds)) c.self.view_is c.self.invariant

pub returns-clause-owner : goal.returns-clause-owner
returns-clause-owner c = word_of_owner _ _ _ _ _ _ (separate c) (owner c).there (owner c).port c.word.ensures.word

pub returns-clause-free : goal.returns-clause-free
returns-clause-free c = λ free. absurd (nobody_has _ _ _ _ _ free (owner c).there (owner c).port)

pub returns-clause-whole : goal.returns-clause-whole
returns-clause-whole c =
    word_says c.each_word_is_of_its_output.ensures.word _ _ _ _ _ _ (separate c) (owner c).there (owner c).port
    c.word.ensures.word c.word.ensures.row

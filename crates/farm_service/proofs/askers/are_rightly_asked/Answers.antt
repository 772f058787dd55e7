use Rattle.std.proofs.Common.{◌≤◌, ◌∙◌, ◌∷◌, [], ℕ, List, length, sym, subst}
use Rattle.std.proofs.lemmas.List.{take_all}
use Rattle.std.proofs.lemmas.Option.{get_or_from_slice_get, slice_get_within}
use Rattle.domain_core.specs.declared.journal.Entry.{Entry}
use Rattle.domain_core.specs.Journal.{expanded}
use Rattle.farm_service.specs.Commands.{AreRightlyAsked}
use Rattle.farm_service.proofs.Entries.{more_right}
use Rattle.farm_service.proofs.askers.are_rightly_asked.Goals as goal

pub loop-index-preserved : goal.loop-index-preserved
loop-index-preserved c =
    let entry = c.in-Some.entry in
    let there = sym c.get.ensures ∙ c.in-Some.is in
    let here = get_or_from_slice_get c.args.journal.now.entries c.loop-index.index entry entry there in
    more_right c.journals_add_up.ensures.law c.args.journal.now.entries c.loop-index.index entry
    (slice_get_within c.args.journal.now.entries c.loop-index.index entry there) c.loop-index.invariant
    (subst (λ (e : Entry). AreRightlyAsked (expanded (e ∷ []))) (sym here)
    (c.is_rightly_asked.ensures c.if-not-is_rightly_asked.false))

pub returns : goal.returns
returns c =
    let all : length c.args.journal.now.entries ≤ c.loop-index.index =
    subst (λ (n : ℕ). n ≤ c.loop-index.index) c.len-index-end.ensures c.loop-index-test.false in
    λ _. subst (λ (journal : List Entry). AreRightlyAsked (expanded journal))
    (take_all c.loop-index.index c.args.journal.now.entries all) c.loop-index.invariant

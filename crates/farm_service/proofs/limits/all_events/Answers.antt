use Rattle.std.proofs.Common.{◌≡◌, ◌+◌, ◌∙◌, ◌∷◌, [], length, sym, ap, rules}
use Rattle.std.proofs.lemmas.Option.{get_or_from_slice_get, slice_get_within}
use Rattle.domain_core.specs.declared.journal.Entry.{Entry}
use Rattle.domain_core.specs.Journal.{expanded}
use Rattle.farm_service.proofs.Entries.{more_events}
use Rattle.farm_service.proofs.limits.all_events.Goals as goal

pub loop-index-preserved : goal.loop-index-preserved
loop-index-preserved c =
    let entry = c.in_ok-entry.entry in
    let there = sym c.get.ensures ∙ c.in_ok-entry.was in
    let here = get_or_from_slice_get c.args.journal.now.entries c.loop-index.index entry entry there in
    let sum : c.in_ok-events.events ≡ c.loop-index.events + c.event_count.result = search rules in
    sum
    ∙ more_events c.journals_add_up.ensures.law c.args.journal.now.entries c.loop-index.index c.loop-index.events
    c.event_count.result entry (slice_get_within c.args.journal.now.entries c.loop-index.index entry there)
    c.loop-index.invariant
    (c.event_count.ensures ∙ ap (λ (e : Entry). length (expanded (e ∷ []))) (sym here))

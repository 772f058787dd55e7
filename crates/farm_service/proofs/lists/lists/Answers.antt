use Rattle.std.proofs.Common.{◌∷◌, [], ◌++◌, ◌∙◌, sym, ap, take}
use Rattle.std.proofs.lemmas.Option.{get_or_from_slice_get, slice_get_within}
use Rattle.domain_core.specs.declared.journal.Entry.{Entry}
use Rattle.domain_core.specs.Journal.{expanded}
use Rattle.farm_service.specs.Commands.{commands_of}
use Rattle.farm_service.proofs.Listings.{more_listed}
use Rattle.farm_service.proofs.lists.lists.Goals as goal

pub loop-index-preserved : goal.loop-index-preserved
loop-index-preserved c =
    let entry = c.in-Some.entry in
    let there = sym c.get.ensures ∙ c.in-Some.is in
    let here = get_or_from_slice_get c.args.journal.now.entries c.loop-index.index entry entry there in record {
      so_far =
          more_listed c.journals_add_up.ensures.law c.args.user c.args.journal.now.entries c.args.told.now
          c.loop-index.index
          c.loop-index.listed c.in-Some-listed_after.after entry
          (slice_get_within c.args.journal.now.entries c.loop-index.index entry there) c.loop-index.invariant.so_far
          (c.in-Some-listed_after.ensures.listed
          ∙ ap (λ (e : Entry). take c.loop-index.listed c.args.told.now
          ++ commands_of c.args.user (expanded (e ∷ [])))
          (sym here));
      within = c.in-Some-listed_after.ensures.within;
    }

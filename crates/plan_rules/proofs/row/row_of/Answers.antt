use Rattle.std.proofs.Common.{ap, ◌∙◌}
use Rattle.plan_rules.specs.Part.{four_ranges}
use Rattle.plan_rules.proofs.SeparateLemmas.{are_all_ranges, is_numbered, ranges_few, row_places}
use Rattle.plan_rules.proofs.row.row_of.Goals as goal

pub place_of-requires : goal.place_of-requires
place_of-requires c =
    let sep = rw (← c.domain.view_is) at c.requires in
    rw c.as_slice-ranges.ensures.value (are_all_ranges _ sep)

pub place_of-requires-2 : goal.place_of-requires-2
place_of-requires-2 c =
    let sep = rw (← c.domain.view_is) at c.requires in
    rw c.as_slice-ranges.ensures.value (are_all_ranges _ sep)

pub place_of-requires-3 : goal.place_of-requires-3
place_of-requires-3 c =
    let sep = rw (← c.domain.view_is) at c.requires in
    rw c.as_slice-ranges.ensures.value (are_all_ranges _ sep)

pub place_of-requires-4 : goal.place_of-requires-4
place_of-requires-4 c =
    let sep = rw (← c.domain.view_is) at c.requires in
    rw c.as_slice-ranges.ensures.value (are_all_ranges _ sep)

pub returns-clause-row : goal.returns-clause-row
returns-clause-row c =
    let sep = rw (← c.domain.view_is) at c.requires in
    rw (
      c.place_of.ensures,
      c.place_of-2.ensures,
      c.place_of-3.ensures,
      c.place_of-4.ensures,
      c.as_slice-ranges.ensures.value,
    )
    (row_places _ (ranges_few _ sep) ∙ ap four_ranges c.domain.view_is)

pub returns-clause-ranges : goal.returns-clause-ranges
returns-clause-ranges c =
    let sep = rw (← c.domain.view_is) at c.requires in
    rw (
      c.place_of.ensures,
      c.place_of-2.ensures,
      c.place_of-3.ensures,
      c.place_of-4.ensures,
      c.as_slice-ranges.ensures.value,
      row_places _ (ranges_few _ sep),
    )
    (is_numbered _ sep).ranges

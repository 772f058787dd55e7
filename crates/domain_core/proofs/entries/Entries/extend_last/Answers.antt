use Rattle.std.proofs.Common.{vec_len, refl, ◌≡◌, ◌++◌, ◌+◌, ◌-◌, ◌≤◌, ◌^◌, sym, subst, length, map, slice_set}
use Rattle.domain_core.proofs.Kept.{last_run_has_room, last_run_goes_on}
use Rattle.domain_core.specs.Entries.{EntriesValue, entry_of}
use Rattle.domain_core.specs.Journal.{expanded, steps}
use Rattle.domain_core.proofs.entries.Entries.extend_last.Goals as goal

pub extend_run-requires : goal.extend_run-requires
extend_run-requires c before run =
    let few =
    subst (λ (v : EntriesValue). length (expanded v.entries) + c.args.count ≤ 2 ^ 40) (sym c.self.view_is)
    c.requires.few in
    last_run_has_room c.self.inside.seen.items (vec_len c.self.inside.small) c.self.inside.small.items
    c.in-Some.entry.now c.args.by c.args.node before c.args.count c.self.inside.small.ok.0
    (c.in-Some.ensures.variant.0 refl) c.in-Some.ensures.value few run

pub returns-clause-grown : goal.returns-clause-grown
returns-clause-grown c is =
    let grown = c.extend_run.ensures.grown is in
    subst (λ (v : EntriesValue).
    expanded (map (entry_of c.self.inside.seen.items)
    (slice_set c.self.inside.small.items (vec_len c.self.inside.small - 1) c.extend_run.new.self))
    ≡ expanded v.entries ++ steps c.args.by c.args.node c.args.count c.args.last)
    c.self.view_is
    (last_run_goes_on c.self.inside.seen.items (vec_len c.self.inside.small) c.self.inside.small.items
    c.in-Some.entry.now c.extend_run.new.self c.args.by c.args.node grown.0 c.args.count c.args.last
    c.self.inside.small.ok.0 (c.in-Some.ensures.variant.0 refl) c.in-Some.ensures.value c.requires.some grown.1 grown.2)

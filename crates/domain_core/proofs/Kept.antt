-- Small entries stand for the same entries when more is seen, for `Entries::push_look` and `extend_last`.
use Rattle.std.proofs.Common.{◌≡◌, ℕ, ◌+◌, ◌-◌, ◌<◌, ◌≤◌, ◌^◌, List, [], ◌∷◌, ◌++◌, length, map, refl, sym, ap, ◌∙◌}
use Rattle.std.proofs.Common.{arith, slice_index_or, slice_set}
use Rattle.std.specs.List.{All}
use Rattle.std.proofs.lemmas.List.{length-map, map-append, map-set, get_or-map, get_or_append_left, get_or_push}
use Rattle.std.proofs.lemmas.List.Elements.{All-head, All-tail}
use Rattle.t414_step.specs.declared.stepping.Stepped.{Stepped}
use Rattle.t414_step.specs.declared.stepping.Stepped.TheVariants.{Ran}
use Rattle.bootstrap.specs.declared.seen.Seen.{Seen}
use Rattle.domain_core.specs.declared.entries.SmallEntry.{SmallEntry}
use Rattle.domain_core.specs.declared.entries.SmallEntry.TheVariants.{One, Look, Run}
use Rattle.domain_core.specs.declared.event.By.{By}
use Rattle.domain_core.specs.declared.event.Event.{Event}
use Rattle.domain_core.specs.declared.event.Reply.TheVariants as reply
use Rattle.domain_core.specs.declared.journal.Entry.{Entry}
use Rattle.domain_core.specs.declared.journal.Entry.TheVariants as entry
use Rattle.domain_core.specs.Entries.{no_look, entry_of, IsStored}
use Rattle.domain_core.specs.Journal.{expanded, steps}
use Rattle.domain_core.proofs.Runs.{run_has_room, run_goes_on}

-- an entry that is kept stays the same
still : (seen more : List Seen) (other_entry : SmallEntry) → IsStored seen other_entry
    → entry_of (seen ++ more) other_entry ≡ entry_of seen other_entry
still seen more (One by asked answer) kept = refl
still seen more (Look by asked place) kept =
    ap (λ (s : Seen). let e : Entry = entry.One by asked (reply.Look s) in e)
    (get_or_append_left seen more no_look place kept)
still seen more (Run by node last count) kept = refl

-- small entries that are stored stand for what they stood for, whatever more is seen
pub all_still : (seen more : List Seen) (small : List SmallEntry) → All (IsStored seen) small
    → map (entry_of (seen ++ more)) small ≡ map (entry_of seen) small
all_still seen more [] kept = refl
all_still seen more (e ∷ small) kept =
    ap (λ (first : Entry). first ∷ map (entry_of (seen ++ more)) small)
    (still seen more e (All-head (IsStored seen) e small kept))
    ∙ ap (λ (rest : List Entry). entry_of seen e ∷ rest)
    (all_still seen more small (All-tail (IsStored seen) e small kept))

-- a look that is stored after small entries stands for an entry with what it saw, and they for what they stood for
pub look_pushed : (seen : List Seen) (small : List SmallEntry) (by : By) (asked : Event) (other_seen : Seen)
    → All (IsStored seen) small
    → map (entry_of (seen ++ other_seen ∷ [])) (small ++ Look by asked (length seen) ∷ [])
    ≡ map (entry_of seen) small ++ entry.One by asked (reply.Look other_seen) ∷ []
look_pushed seen small by asked other_seen kept =
    map-append (entry_of (seen ++ other_seen ∷ [])) small (Look by asked (length seen) ∷ [])
    ∙ ap (λ (front : List Entry). front ++ entry_of (seen ++ other_seen ∷ []) (Look by asked (length seen)) ∷ [])
    (all_still seen (other_seen ∷ []) small kept)
    ∙ ap (λ (last : Seen). map (entry_of seen) small ++ entry.One by asked (reply.Look last) ∷ [])
    (get_or_push seen other_seen no_look (length seen) refl)

-- a run that is last
at_last : (seen : List Seen) (n : ℕ) (small : List SmallEntry) (other_entry : SmallEntry) → n ≡ length small → 0 < n
    → other_entry ≡ slice_index_or small (n - 1) other_entry
    → entry_of seen other_entry ≡ slice_index_or (map (entry_of seen) small) (n - 1) (entry_of seen other_entry)
at_last seen n small other_entry all some is =
    ap (entry_of seen) is
    ∙ sym (get_or-map (entry_of seen) small (n - 1) other_entry (entry_of seen other_entry) (omega (arith, all, some)))

-- a run that is last among small entries has room for that many Steps more, if the journal has
pub last_run_has_room : (seen : List Seen) (n : ℕ) (small : List SmallEntry) (other_entry : SmallEntry) (by : By)
    (node before count : ℕ)
    → n ≡ length small → 0 < n
    → other_entry ≡ slice_index_or small (n - 1) other_entry
    → length (expanded (map (entry_of seen) small)) + count ≤ 2 ^ 40 → other_entry ≡ Run by node Ran before
    → before + count ≤ 2 ^ 40
last_run_has_room seen n small other_entry by node before count all some is few run =
    run_has_room n (map (entry_of seen) small) (entry_of seen other_entry) by node before count
    (all ∙ sym (length-map small (entry_of seen))) some (at_last seen n small other_entry all some is) few
    (ap (entry_of seen) run)

-- setting a longer run in the place of the last small entry puts that many Steps after what the entries stand for
pub last_run_goes_on : (seen : List Seen) (n : ℕ) (small : List SmallEntry)
    (other_entry third_entry : SmallEntry) (by : By)
    (node before count : ℕ) (last : Stepped)
    → n ≡ length small → 0 < n → other_entry ≡ slice_index_or small (n - 1) other_entry
    → 0 < count
    → other_entry ≡ Run by node Ran before → third_entry ≡ Run by node last (before + count)
    → expanded (map (entry_of seen) (slice_set small (n - 1) third_entry))
    ≡ expanded (map (entry_of seen) small) ++ steps by node count last
last_run_goes_on seen n small other_entry third_entry by node before count last all some is more run grown =
    ap expanded (map-set (entry_of seen) small (n - 1) third_entry)
    ∙ run_goes_on n (map (entry_of seen) small) (entry_of seen other_entry) (entry_of seen third_entry) by
    node before count last
    (all ∙ sym (length-map small (entry_of seen))) some (at_last seen n small other_entry all some is) more
    (ap (entry_of seen) run) (ap (entry_of seen) grown)

-- Entries with memory reserved for a number of them, for `Entries::kept_law`, `reserve` and what appends entries.
use Rattle.std.proofs.Common.{◌≡◌, ℕ, zero, suc, ◌+◌, ◌<◌, ◌≤◌, ◌⊎◌, inl, inr, List, [], ◌∷◌, length, map, refl}
use Rattle.std.proofs.Common.{arith, sym, subst, ◌∙◌, lt_of_not-le, zero-lt-suc}
use Rattle.std.specs.List.{All}
use Rattle.std.proofs.lemmas.List.{length-map}
use Rattle.std.proofs.lemmas.List.Elements.{All-nil, All-head, All-tail, All-cons}
use Rattle.bootstrap.specs.declared.seen.Seen.{Seen}
use Rattle.domain_core.specs.declared.entries.SmallEntry.{SmallEntry}
use Rattle.domain_core.specs.declared.entries.SmallEntry.TheVariants.{One, Look, Run}
use Rattle.domain_core.specs.Entries.{entry_of, entries_left, IsStored, AreReserved}
use Rattle.domain_core.specs.Journal.{IsNotEmpty, IsKeptWithin}

-- where an entry may still come there is a place for it
pub has_place : (reserved entries capacity : ℕ) → reserved ≤ capacity → 0 < entries_left reserved entries capacity
    → entries < capacity
has_place zero entries capacity for some = omega (arith, some)
has_place (suc reserved) entries capacity for some = omega (arith, for, some)

-- and with it there are no more than are reserved, if any are
pub within_more : (reserved entries capacity : ℕ) → 0 < entries_left reserved entries capacity
    → (reserved ≡ 0) ⊎ (entries + 1 ≤ reserved)
within_more zero entries capacity some = inl refl
within_more (suc reserved) entries capacity some = inr (omega (arith, some))

-- an entry may come where there is a place for it, if it isn't past those that are reserved
pub has_left : (reserved entries capacity : ℕ) → ¬ ((0 < reserved) × (reserved ≤ entries)) → entries < capacity
    → 0 < entries_left reserved entries capacity
has_left zero entries capacity left place = omega (arith, place)
has_left (suc reserved) entries capacity left place =
    let more : entries < suc reserved = lt_of_not-le (λ past. left (zero-lt-suc reserved, past)) in
    omega (arith, more)

stored_not_empty : (seen : List Seen) (other_entry : SmallEntry) → IsStored seen other_entry
    → IsNotEmpty (entry_of seen other_entry)
stored_not_empty seen (One by asked answer) stored = stored
stored_not_empty seen (Look by asked place) stored = tt
stored_not_empty seen (Run by node last count) stored = stored

all_not_empty : (seen : List Seen) (small : List SmallEntry) → All (IsStored seen) small
    → All IsNotEmpty (map (entry_of seen) small)
all_not_empty seen [] stored = All-nil IsNotEmpty
all_not_empty seen (e ∷ small) stored =
    All-cons IsNotEmpty (entry_of seen e) (map (entry_of seen) small)
    (stored_not_empty seen e (All-head (IsStored seen) e small stored))
    (all_not_empty seen small (All-tail (IsStored seen) e small stored))

-- what small entries stand for is kept so
pub kept_within : (seen : List Seen) (small : List SmallEntry) (reserved entries looks capacity look_capacity : ℕ)
    → All (IsStored seen) small → AreReserved reserved entries looks capacity look_capacity → entries ≡ length small
    → IsKeptWithin (map (entry_of seen) small) reserved
kept_within seen small reserved entries looks capacity look_capacity stored are all = record {
  not_empty = all_not_empty seen small stored;
  within =
      subst (λ (n : ℕ). (reserved ≡ 0) ⊎ (n ≤ reserved)) (all ∙ sym (length-map small (entry_of seen))) are.within;
}

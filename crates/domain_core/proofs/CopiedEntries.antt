-- Entries of a journal that are copied one after another, for `Mark::start`, `Entry::behind` and `Journal::copy_since`.
use Rattle.std.proofs.Common.{◌≡◌, ℕ, zero, suc, ◌+◌, ◌-◌, ◌<◌, ◌≤◌, List, [], ◌∷◌, ◌++◌, length, take, drop, Some}
use Rattle.std.proofs.Common.{slice_get, refl, sym, ap, ◌∙◌, append_assoc, arith}
use Rattle.std.specs.Prelude.{option_to_list}
use Rattle.std.proofs.lemmas.List.{append-nil}
use Rattle.std.proofs.lemmas.Option.{none-some, same_Some}
use Rattle.std.proofs.Math.Seq.{drop-length, drop-append_seam}
use Rattle.t414_step.specs.declared.stepping.Stepped.{Stepped}
use Rattle.t414_step.specs.declared.stepping.Stepped.TheVariants.{Ran}
use Rattle.domain_core.specs.declared.copying.Mark.{Mark}
use Rattle.domain_core.specs.declared.event.By.{By}
use Rattle.domain_core.specs.declared.journal.Entry.{Entry}
use Rattle.domain_core.specs.declared.journal.Entry.TheVariants.{One, Run}
use Rattle.domain_core.specs.Journal.{AnsweredCall, steps, expanded}
use Rattle.domain_core.specs.Marks.{events_behind, events_from, StandsIn, Copies}
use Rattle.domain_core.proofs.Runs.{expanded-append, steps-add, length-steps}

-- after a mark at the front is all that the journal stands for
pub all_behind : (journal : List Entry) → events_behind 0 0 journal ≡ expanded journal
all_behind [] = refl
all_behind (One by event reply ∷ later) = refl
all_behind (Run by node count last ∷ later) =
    ap (λ (xs : List AnsweredCall). xs ++ expanded later) (append-nil (steps by node count last))

-- after a mark at the end is nothing
pub none_behind : (i events : ℕ) (journal : List Entry) → length journal ≤ i → events_behind i events journal ≡ []
none_behind i events [] past = refl
none_behind zero events (entry ∷ later) past = absurd (omega (arith, past))
none_behind (suc i) events (entry ∷ later) past = none_behind i events later (omega (arith, past))

behind_entry : (i events : ℕ) (journal : List Entry) (entry : Entry) → slice_get journal i ≡ Some entry
    → events_behind i events journal ≡ drop events (expanded (entry ∷ [])) ++ events_behind (suc i) 0 journal
behind_entry i events [] entry at = absurd (none-some entry at)
behind_entry zero events (e ∷ later) entry at =
    ap (λ (x : Entry). drop events (expanded (x ∷ [])) ++ expanded later) (same_Some e entry at)
    ∙ ap (λ (xs : List AnsweredCall). drop events (expanded (entry ∷ [])) ++ xs) (sym (all_behind later))
behind_entry (suc i) events (e ∷ later) entry at = behind_entry i events later entry at

plus_one : (i : ℕ) → suc i ≡ i + 1
plus_one i = omega arith

-- the entry at a place, and those after it
pub entry_more : (i events : ℕ) (journal : List Entry) (entry : Entry) → slice_get journal i ≡ Some entry
    → events_behind i events journal ≡ drop events (expanded (entry ∷ [])) ++ events_behind (i + 1) 0 journal
entry_more i events journal entry at =
    behind_entry i events journal entry at
    ∙ ap (λ (k : ℕ). drop events (expanded (entry ∷ [])) ++ events_behind k 0 journal) (plus_one i)

-- after all events of an entry are those after it
pub entry_done : (i : ℕ) (journal : List Entry) (entry : Entry) (count : ℕ)
    → slice_get journal i ≡ Some entry → count ≡ length (expanded (entry ∷ []))
    → events_behind i count journal ≡ events_behind (i + 1) 0 journal
entry_done i journal entry count at is =
    entry_more i count journal entry at
    ∙ ap (λ (k : ℕ). drop k (expanded (entry ∷ [])) ++ events_behind (i + 1) 0 journal) is
    ∙ ap (λ (xs : List AnsweredCall). xs ++ events_behind (i + 1) 0 journal) (drop-length (expanded (entry ∷ [])))

entry_at : (i : ℕ) (journal : List Entry) (entry : Entry) → slice_get journal i ≡ Some entry
    → take 1 (drop i journal) ≡ entry ∷ []
entry_at i [] entry at = absurd (none-some entry at)
entry_at zero (e ∷ later) entry at = ap (λ (x : Entry). x ∷ []) (same_Some e entry at)
entry_at (suc i) (e ∷ later) entry at = entry_at i later entry at

-- a mark after an entry of the journal is there
pub stands_behind : (i : ℕ) (journal : List Entry) (entry : Entry) (count : ℕ)
    → i < length journal → slice_get journal i ≡ Some entry → count ≡ length (expanded (entry ∷ []))
    → StandsIn journal (record { entries = i; events = count })
stands_behind i journal entry count within at is = record {
  entries = omega (arith, within);
  events =
      let here : length (expanded (take 1 (drop i journal))) ≡ length (expanded (entry ∷ [])) =
      ap (λ (xs : List Entry). length (expanded xs)) (entry_at i journal entry at) in
      omega (arith, is, here);
}

-- a run without its first events is a run of those that are left
pub rest_of_run : (by : By) (node count events : ℕ) (last : Stepped) → events < count
    → drop events (steps by node count last ++ []) ≡ steps by node (count - events) last ++ []
rest_of_run by node count events last less =
    let whole : count ≡ events + (count - events) = omega (arith, less) in
    let ran : length (steps by node events Ran) ≡ events = length-steps by node events Ran in
    let split : steps by node count last ≡ steps by node events Ran ++ steps by node (count - events) last =
    ap (λ (n : ℕ). steps by node n last) whole ∙ steps-add by node events (count - events) last (omega (arith, less)) in
    ap (drop events) (append-nil (steps by node count last))
    ∙ ap (drop events) split
    ∙ ap (λ (n : ℕ). drop n (steps by node events Ran ++ steps by node (count - events) last)) (sym ran)
    ∙ drop-append_seam (steps by node events Ran) (steps by node (count - events) last)
    ∙ sym (append-nil (steps by node (count - events) last))

-- one entry more is copied: the copy stands for the events up to the end of that entry
pub copies_more : (journal : List Entry) (from to : Mark) (old items : List Entry) (i events count : ℕ)
    (entry rest : Entry)
    → Copies journal from to old items
    → events_from to journal ≡ events_behind i events journal → i < length journal → slice_get journal i ≡ Some entry
    → count ≡ length (expanded (entry ∷ []))
    → drop events (expanded (entry ∷ [])) ≡ expanded (option_to_list (Some rest))
    → Copies journal from (record { entries = i; events = count }) old (items ++ rest ∷ [])
copies_more journal from to old items i events count entry rest so_far next within at is left =
    let later : List AnsweredCall = events_behind (i + 1) 0 journal in record {
      copied = so_far.copied ++ rest ∷ [];
      behind = ap (λ (xs : List Entry). xs ++ rest ∷ []) so_far.behind ∙ append_assoc old so_far.copied (rest ∷ []);
      events =
          so_far.events
          ∙ ap (λ (xs : List AnsweredCall). expanded so_far.copied ++ xs)
          (next ∙ entry_more i events journal entry at ∙ ap (λ (xs : List AnsweredCall). xs ++ later) left)
          ∙ sym (append_assoc (expanded so_far.copied) (expanded (rest ∷ [])) later)
          ∙ (λ k. sym (expanded-append so_far.copied (rest ∷ [])) k ++ sym (entry_done i journal entry count at is) k);
      stands = λ _. stands_behind i journal entry count within at is;
    }

-- if no event is left of an entry, a mark in it is a mark before the next
pub nothing_more : (journal : List Entry) (i events : ℕ) (entry : Entry)
    → slice_get journal i ≡ Some entry → drop events (expanded (entry ∷ [])) ≡ []
    → events_behind i events journal ≡ events_behind (i + 1) 0 journal
nothing_more journal i events entry at left =
    entry_more i events journal entry at ∙ ap (λ (xs : List AnsweredCall). xs ++ events_behind (i + 1) 0 journal) left

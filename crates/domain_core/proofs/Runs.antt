-- Entries that expand to several Steps: what a journal
-- stands for as it grows, for `Entries` and the law `journals_add_up`.
use Rattle.std.proofs.Common.{◌≡◌, ℕ, zero, suc, ◌+◌, List, [], ◌∷◌, ◌++◌, length, replicate, refl, sym, ap, ◌∙◌, arith}
use Rattle.std.proofs.Common.{append_assoc, add-suc, ◌<◌, ◌≤◌, ◌-◌, ◌^◌, take, drop, slice_set, slice_index_or}
use Rattle.std.proofs.lemmas.List.{length-append, append-nil, replicate-append-replicate, length-replicate}
use Rattle.std.proofs.lemmas.List.{length-take-le, take-append-drop}
use Rattle.std.proofs.Math.Seq.{set-append_seam}
use Rattle.t414_step.specs.declared.stepping.Stepped.{Stepped}
use Rattle.t414_step.specs.declared.stepping.Stepped.TheVariants.{Ran}
use Rattle.domain_core.specs.declared.event.By.{By}
use Rattle.domain_core.specs.declared.event.Event.{Event}
use Rattle.domain_core.specs.declared.event.Reply.{Reply}
use Rattle.domain_core.specs.declared.journal.Entry.{Entry}
use Rattle.domain_core.specs.declared.journal.Entry.TheVariants.{One, Run}
use Rattle.domain_core.specs.Journal.{AnsweredCall, answered_step, steps, expanded}

-- two lists of entries stand for the events of the first and then those of the second
pub expanded-append : (xs ys : List Entry) → expanded (xs ++ ys) ≡ expanded xs ++ expanded ys
expanded-append [] ys = refl
expanded-append (One by event reply ∷ xs) ys =
    ap (λ (rest : List AnsweredCall). record { call = record { by = by; event = event }; reply = reply } ∷ rest)
    (expanded-append xs ys)
expanded-append (Run by node count last ∷ xs) ys =
    ap (λ (rest : List AnsweredCall). steps by node count last ++ rest) (expanded-append xs ys)
    ∙ sym (append_assoc (steps by node count last) (expanded xs) (expanded ys))

-- Ran once more
ran_once_more : (by : By) (node count : ℕ)
    → replicate count (answered_step by node Ran) ++ answered_step by node Ran ∷ []
    ≡ answered_step by node Ran ∷ replicate count (answered_step by node Ran)
ran_once_more by node zero = refl
ran_once_more by node (suc count) =
    ap (λ (rest : List AnsweredCall). answered_step by node Ran ∷ rest) (ran_once_more by node count)

-- if the last of the Steps ran, all are Steps that ran
pub steps-ran : (by : By) (node count : ℕ) → steps by node count Ran ≡ replicate count (answered_step by node Ran)
steps-ran by node zero = refl
steps-ran by node (suc count) = ran_once_more by node count

-- Steps that all answered Ran, and further Steps
steps-add_suc : (by : By) (node before count : ℕ) (last : Stepped)
    → steps by node (before + suc count) last ≡ steps by node before Ran ++ steps by node (suc count) last
steps-add_suc by node before count last =
    rw (add-suc, steps-ran by node before, ← append_assoc, replicate-append-replicate) refl

-- Steps that ran and some more are that many Steps in a row
pub steps-add : (by : By) (node before count : ℕ) (last : Stepped) → 0 < count
    → steps by node (before + count) last ≡ steps by node before Ran ++ steps by node count last
steps-add by node before zero last some = absurd (omega arith)
steps-add by node before (suc count) last some = steps-add_suc by node before count last

-- a run of that many Steps stands for that many events
pub length-steps : (by : By) (node count : ℕ) (last : Stepped) → length (steps by node count last) ≡ count
length-steps by node zero last = refl
length-steps by node (suc count) last =
    omega (
      arith,
      length-append (replicate count (answered_step by node Ran)) (answered_step by node last ∷ []),
      length-replicate count (answered_step by node Ran),
    )

-- a new run at the end stands for its Steps after what was there
pub expanded_new : (old new : List Entry) (by : By) (node count : ℕ) (last : Stepped)
    → new ≡ old ++ Run by node count last ∷ []
    → expanded new ≡ expanded old ++ steps by node count last
expanded_new old new by node count last is = rw (is, expanded-append, append-nil (steps by node count last)) refl

-- a run at the end that goes on stands for the new Steps after what was there
pub expanded_grown : (front old new : List Entry) (by : By) (node before count : ℕ) (last : Stepped)
    → 0 < count → old ≡ front ++ Run by node before Ran ∷ [] → new ≡ front ++ Run by node (before + count) last ∷ []
    → expanded new ≡ expanded old ++ steps by node count last
expanded_grown front old new by node before count last some was is =
    expanded_new front new by node (before + count) last is
    ∙ rw (steps-add by node before count last some, expanded_new front old by node before Ran was)
    (sym (append_assoc (expanded front) (steps by node before Ran) (steps by node count last)))

-- one of its Steps is one of the journal's
pub count_below : (front old : List Entry) (by : By) (node before : ℕ) → old ≡ front ++ Run by node before Ran ∷ []
    → before ≤ length (expanded old)
count_below front old by node before was =
    let e : length (expanded old) ≡ length (expanded front ++ steps by node before Ran) =
    ap length (expanded_new front old by node before Ran was) in
    omega (arith, length-append (expanded front) (steps by node before Ran), length-steps by node before Ran)

-- an entry of one event more stands for that event more
pub expanded_one : (old new : List Entry) (by : By) (event : Event) (reply : Reply)
    → new ≡ old ++ One by event reply ∷ []
    → expanded new ≡ expanded old ++ record { call = record { by = by; event = event }; reply = reply } ∷ []
expanded_one old new by event reply is = rw (is, expanded-append) refl

-- the last entry, and what is before it
drop_one : (k : ℕ) (xs : List Entry) (entry : Entry) → length xs ≡ suc k → entry ≡ slice_index_or xs k entry
    → drop k xs ≡ entry ∷ []
drop_one zero [] entry one is = absurd (omega (arith, one))
drop_one zero (x ∷ []) entry one is = ap (λ (y : Entry). y ∷ []) (sym is)
drop_one zero (x ∷ (y ∷ xs)) entry one is = absurd (omega (arith, one))
drop_one (suc k) [] entry more is = absurd (omega (arith, more))
drop_one (suc k) (x ∷ xs) entry more is = drop_one k xs entry (omega (arith, more)) is

last_of : (n : ℕ) (xs : List Entry) (entry : Entry) → n ≡ length xs → 0 < n → entry ≡ slice_index_or xs (n - 1) entry
    → xs ≡ take (n - 1) xs ++ entry ∷ []
last_of n xs entry all some is =
    sym (take-append-drop (n - 1) xs)
    ∙ ap (λ (l : List Entry). take (n - 1) xs ++ l) (drop_one (n - 1) xs entry (omega (arith, all, some)) is)

last_set : (n : ℕ) (xs : List Entry) (entry other_entry : Entry) → n ≡ length xs → 0 < n → entry
    ≡ slice_index_or xs (n - 1) entry
    → slice_set xs (n - 1) other_entry ≡ take (n - 1) xs ++ other_entry ∷ []
last_set n xs entry other_entry all some is =
    let front : length (take (n - 1) xs) ≡ n - 1 = length-take-le (n - 1) xs (omega (arith, all)) in
    ap (λ (l : List Entry). slice_set l (n - 1) other_entry) (last_of n xs entry all some is)
    ∙ ap (λ (i : ℕ). slice_set (take (n - 1) xs ++ entry ∷ []) i other_entry) (sym front)
    ∙ set-append_seam (take (n - 1) xs) entry [] other_entry

-- a run that is last has room for that many Steps more, if the journal has
pub run_has_room : (n : ℕ) (xs : List Entry) (entry : Entry) (by : By) (node before count : ℕ) → n ≡ length xs → 0 < n
    → entry ≡ slice_index_or xs (n - 1) entry
    → length (expanded xs) + count ≤ 2 ^ 40 → entry ≡ Run by node before Ran → before + count ≤ 2 ^ 40
run_has_room n xs entry by node before count all some is few run =
    let below : before ≤ length (expanded xs) =
    count_below (take (n - 1) xs) xs by node before
    (last_of n xs entry all some is ∙ ap (λ (y : Entry). take (n - 1) xs ++ y ∷ []) run) in
    omega (arith, below, few)

-- setting a longer run in the place of the last entry puts the new Steps after what the entries stand for
pub run_goes_on : (n : ℕ) (xs : List Entry) (entry other_entry : Entry) (by : By)
    (node before count : ℕ) (last : Stepped)
    → n ≡ length xs → 0 < n → entry ≡ slice_index_or xs (n - 1) entry
    → 0 < count
    → entry ≡ Run by node before Ran → other_entry ≡ Run by node (before + count) last
    → expanded (slice_set xs (n - 1) other_entry) ≡ expanded xs ++ steps by node count last
run_goes_on n xs entry other_entry by node before count last all some is more run grown =
    expanded_grown (take (n - 1) xs) xs (slice_set xs (n - 1) other_entry) by node before count last more
    (last_of n xs entry all some is ∙ ap (λ (y : Entry). take (n - 1) xs ++ y ∷ []) run)
    (last_set n xs entry other_entry all some is ∙ ap (λ (y : Entry). take (n - 1) xs ++ y ∷ []) grown)

-- How many commands entries of a journal have, and how many a record has that gains them: the contracts of
-- `commands_of`, `commands_of_all` and `next_reached`, and the counts of `KeepsPieces`.
use Rattle.std.proofs.Common.{◌≡◌, ◌∙◌, ◌+◌, ◌^◌, ◌<◌, ◌≤◌, ℕ, zero, suc, Bool, true, false, cond}
use Rattle.std.proofs.Common.{List, [], ◌∷◌, ◌++◌, length, take, get_or, replicate, refl, ap, arith}
use Rattle.std.specs.Prelude.{filter}
use Rattle.std.proofs.lemmas.List.{length-append, take_more}
use Rattle.std.proofs.lemmas.List.Elements.{filter-append}
use Rattle.domain_core.specs.declared.copying.Mark.{Mark}
use Rattle.domain_core.specs.declared.event.By.{By}
use Rattle.domain_core.specs.declared.journal.Entry.{Entry}
use Rattle.domain_core.specs.declared.journal.Entry.TheVariants.{One, Run}
use Rattle.domain_core.specs.Commands.{is_command}
use Rattle.domain_core.specs.Journal.{AnsweredCall, answered_step, expanded, steps}
use Rattle.domain_core.specs.Laws.{JournalsAddUp}
use Rattle.domain_core.specs.Marks.{events_from}
use Rattle.record_keeping.specs.Counts.{asks_command, commands_in, commands_among, saturated, IsCountBefore}

-- ---- one history after another

-- a history and a later one have as many commands as the two
pub commands_in_both : (history later : List AnsweredCall)
    → commands_in (history ++ later) ≡ commands_in history + commands_in later
commands_in_both history later =
    ap length (filter-append asks_command history later)
    ∙ length-append (filter asks_command history) (filter asks_command later)

-- entries and later ones have as many commands as the two
pub commands_among_both : JournalsAddUp
    → (entries later : List Entry)
    → commands_among (entries ++ later) ≡ commands_among entries + commands_among later
commands_among_both law entries later =
    ap commands_in (law entries later) ∙ commands_in_both (expanded entries) (expanded later)

-- ---- one entry

no_replicated : (by : By) (node count : ℕ) (answer : _) (rest : List AnsweredCall)
    → commands_in (replicate count (answered_step by node answer) ++ rest) ≡ commands_in rest
no_replicated by node zero answer rest = refl
no_replicated by node (suc count) answer rest = no_replicated by node count answer rest

no_steps : (by : By) (node count : ℕ) (last : _) → commands_in (steps by node count last) ≡ 0
no_steps by node zero last = refl
no_steps by node (suc count) last = no_replicated by node count _ (answered_step by node last ∷ [])

-- a run of Steps has no command
pub no_commands : (by : By) (node count : ℕ) (last : _) → commands_among (Run by node count last ∷ []) ≡ 0
no_commands by node count last =
    commands_in_both (steps by node count last) [] ∙ ap (λ (n : ℕ). n + 0) (no_steps by node count last)

-- ---- entries

-- the commands of the entries up to a place, and those of the next, are those of one entry more
pub commands_more : JournalsAddUp
    → (entries : List Entry) (i : ℕ) (entry : Entry) (commands more : ℕ) → i < length entries
    → commands ≡ commands_among (take i entries) → more ≡ commands_among (get_or entries i entry ∷ [])
    → commands + more ≡ commands_among (take (i + 1) entries)
commands_more law entries i entry commands more within so_far next =
    let all : commands_among (take (i + 1) entries)
    ≡ commands_among (take i entries) + commands_among (get_or entries i entry ∷ []) =
    ap commands_among (take_more entries i entry within)
    ∙ commands_among_both law (take i entries) (get_or entries i entry ∷ []) in
    omega (arith, all, so_far, next)

one_within : (test : Bool) (a : AnsweredCall) (history : List AnsweredCall) (entries : ℕ) → length history ≤ entries
    → length (cond test (a ∷ history) history) ≤ suc entries
one_within true a history entries few = omega (arith, few)
one_within false a history entries few = omega (arith, few)

run_within : (all none some entries : ℕ) → all ≡ none + some → none ≡ 0 → some ≤ entries → all ≤ suc entries
run_within all none some entries both is few = omega (arith, both, is, few)

-- entries have no more commands than there are entries
pub commands_within : (entries : List Entry) → commands_among entries ≤ length entries
commands_within [] = omega arith
commands_within (One by event reply ∷ entries) =
    one_within (is_command event) _ (filter asks_command (expanded entries)) (length entries) (commands_within entries)
commands_within (Run by node count last ∷ entries) =
    run_within _ _ _ (length entries) (commands_in_both (steps by node count last) (expanded entries))
    (no_steps by node count last) (commands_within entries)

-- ---- a journal up to a mark

-- a count up to a mark, and then the commands of the entries that were copied from there, is the count up to where the
-- copy ended
pub counted_on : (journal : List Entry) (from to : Mark) (copied : List Entry) (commands : ℕ)
    → events_from from journal ≡ expanded copied ++ events_from to journal → IsCountBefore journal from commands
    → IsCountBefore journal to (commands + commands_among copied)
counted_on journal from to copied commands events before =
    let rest : commands_in (events_from from journal) ≡ commands_among copied + commands_in (events_from to journal) =
    ap commands_in events ∙ commands_in_both (expanded copied) (events_from to journal) in
    omega (arith, rest, before)

-- the count up to where a copy ended is no greater than the number of entries
pub count_within : (journal : List Entry) (to : Mark) (commands : ℕ) → IsCountBefore journal to commands
    → commands ≤ length journal
count_within journal to commands before = omega (arith, before, commands_within journal)

-- ---- a record's count

-- a count in 64 bits that gains some, and then others, is a count that gains all of them
pub count_twice : (before some others : ℕ)
    → saturated (saturated (before + some) + others) ≡ saturated (before + (some + others))
count_twice before some others = omega arith

-- a count that gains none stays
pub count_stays : (before none : ℕ) → before < 2 ^ 64 → none ≡ 0 → before ≡ saturated (before + none)
count_stays before none less is = omega (arith, less, is)

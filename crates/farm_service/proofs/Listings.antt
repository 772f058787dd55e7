-- A user's commands in a journal, entry by entry: the contracts of `command_from` and `lists`, and the clause `listed`
-- of `listed_after`.
use Rattle.std.proofs.Common.{◌≡◌, ℕ, zero, suc, ◌+◌, ◌<◌, List, [], ◌∷◌, ◌++◌, length, take, get_or, replicate}
use Rattle.std.proofs.Common.{Bool, true, false, ◌==◌, Some, None, refl, sym, ap, ◌∙◌, append_assoc, cond, ◌&&◌}
use Rattle.std.specs.Prelude.{option_to_list}
use Rattle.std.proofs.lemmas.List.{take_more}
use Rattle.std.proofs.lemmas.List.Elements.{filter_map-append}
use Rattle.t414_step.specs.declared.stepping.Stepped.{Stepped}
use Rattle.t414_step.specs.declared.stepping.Stepped.TheVariants.{Ran}
use Rattle.domain_core.specs.declared.event.By.{By}
use Rattle.domain_core.specs.declared.event.By.TheVariants.{User, Farm}
use Rattle.domain_core.specs.declared.journal.Entry.{Entry}
use Rattle.domain_core.specs.declared.journal.Entry.TheVariants.{Run}
use Rattle.domain_core.specs.Journal.{AnsweredCall, expanded, answered_step}
use Rattle.domain_core.specs.Laws.{JournalsAddUp}
use Rattle.domain_core.specs.declared.event.AnsweredCommand.{AnsweredCommand}
use Rattle.farm_service.specs.Commands.{command_from, commands_of}

and_none : (b : Bool) (told : AnsweredCommand) → cond (b && false) (Some told) None ≡ None
and_none true told = refl
and_none false told = refl

-- a Step is no command
no_command : (user : ℕ) (by : By) (node : ℕ) (answer : Stepped)
    → command_from user (answered_step by node answer) ≡ None
no_command user Farm node answer = refl
no_command user (User other) node answer = and_none (other == user) _

no_replicated : (user : ℕ) (by : By) (node count : ℕ) (rest : List AnsweredCall)
    → commands_of user (replicate count (answered_step by node Ran) ++ rest) ≡ commands_of user rest
no_replicated user by node zero rest = refl
no_replicated user by node (suc count) rest = rw (no_command user by node Ran) (no_replicated user by node count rest)

-- a run of Steps has no command of any user
pub no_steps : (user : ℕ) (by : By) (node count : ℕ) (last : Stepped)
    → commands_of user (expanded (Run by node count last ∷ [])) ≡ []
no_steps user by node zero last = refl
no_steps user by node (suc count) last =
    ap (commands_of user)
    (append_assoc (replicate count (answered_step by node Ran)) (answered_step by node last ∷ []) [])
    ∙ no_replicated user by node count (answered_step by node last ∷ []) ∙ rw (no_command user by node last) refl

-- a list that begins with the commands of the first entries, and then has those of the next, has one entry more
pub more_listed : JournalsAddUp
    → (user : ℕ) (journal : List Entry) (told : List AnsweredCommand) (i listed n : ℕ) (entry : Entry)
    → i < length journal
    → commands_of user (expanded (take i journal)) ≡ take listed told
    → take n told ≡ take listed told ++ commands_of user (expanded (get_or journal i entry ∷ []))
    → commands_of user (expanded (take (i + 1) journal)) ≡ take n told
more_listed law user journal told i listed n entry within so_far next =
    ap (λ (xs : List Entry). commands_of user (expanded xs)) (take_more journal i entry within)
    ∙ ap (commands_of user) (law (take i journal) (get_or journal i entry ∷ []))
    ∙ filter_map-append (command_from user) (expanded (take i journal)) (expanded (get_or journal i entry ∷ []))
    ∙ ap (λ (xs : List AnsweredCommand). xs ++ commands_of user (expanded (get_or journal i entry ∷ []))) so_far
    ∙ sym next

-- if the next of a list is the one command that an entry has, the list goes on with that entry's commands
pub next_told : (user : ℕ) (entry : Entry) (told : List AnsweredCommand) (listed : ℕ)
    (command other_told : AnsweredCommand)
    → listed < length told → get_or told listed other_told ≡ command
    → commands_of user (expanded (entry ∷ [])) ≡ option_to_list (Some command)
    → take (listed + 1) told ≡ take listed told ++ commands_of user (expanded (entry ∷ []))
next_told user entry told listed command other_told within is has =
    take_more told listed other_told within ∙ ap (λ (x : AnsweredCommand). take listed told ++ x ∷ []) is
    ∙ ap (λ (xs : List AnsweredCommand). take listed told ++ xs) (sym has)

-- a list that goes on with the commands of the first entries, and then with those of the next, goes on with those of
-- one entry more
pub goes_on_more : JournalsAddUp
    → (user : ℕ) (journal : List Entry) (told first : List AnsweredCommand) (i listed n : ℕ) (entry : Entry)
    → i < length journal
    → take listed told ≡ first ++ commands_of user (expanded (take i journal))
    → take n told ≡ take listed told ++ commands_of user (expanded (get_or journal i entry ∷ []))
    → take n told ≡ first ++ commands_of user (expanded (take (i + 1) journal))
goes_on_more law user journal told first i listed n entry within so_far next =
    let have : List AnsweredCommand = commands_of user (expanded (take i journal)) in
    let has : List AnsweredCommand = commands_of user (expanded (get_or journal i entry ∷ [])) in
    next ∙ ap (λ (xs : List AnsweredCommand). xs ++ has) so_far ∙ append_assoc first have has
    ∙ ap (λ (xs : List AnsweredCommand). first ++ xs)
    (sym
    (ap (λ (xs : List Entry). commands_of user (expanded xs)) (take_more journal i entry within)
    ∙ ap (commands_of user) (law (take i journal) (get_or journal i entry ∷ []))
    ∙ filter_map-append (command_from user) (expanded (take i journal)) (expanded (get_or journal i entry ∷ []))))

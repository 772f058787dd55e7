-- Domains that are at their places, and a user's commands that are listed entry by entry: the clause `domains` of
-- `open_domains`, and the contract of `list_commands`.
use Rattle.std.proofs.Common.{◌≡◌, ℕ, zero, suc, ◌+◌, List, [], ◌∷◌, ◌++◌, length}
use Rattle.std.proofs.Common.{take, Some, slice_get, sym, ap, ◌∙◌, subst, append_assoc}
use Rattle.std.proofs.lemmas.List.{take_more}
use Rattle.std.proofs.lemmas.List.Elements.{filter_map-append}
use Rattle.std.proofs.lemmas.Option.{slice_get_within, get_or_from_slice_get, same_Some, none-some}
use Rattle.plan_rules.specs.Data.{DomainData}
use Rattle.domain_core.specs.declared.journal.Entry.{Entry}
use Rattle.domain_core.specs.Domain.{DomainValue, Fits}
use Rattle.domain_core.specs.Journal.{expanded}
use Rattle.domain_core.specs.Laws.{JournalsAddUp}
use Rattle.domain_core.specs.declared.event.AnsweredCommand.{AnsweredCommand}
use Rattle.farm_service.specs.Commands.{command_from, commands_of}
use Rattle.farm_service.specs.Openings.{AreInPlaces}

-- what holds of each member at its place, and of one more
snoc_each : {A : Type 0} (P : ℕ → A → Type 0) (xs : List A) (x : A)
    → ((n : ℕ) (d : A) → slice_get xs n ≡ Some d → P n d) → P (length xs) x → (n : ℕ) (d : A)
    → slice_get (xs ++ x ∷ []) n ≡ Some d
    → P n d
snoc_each P [] x each last zero d at = subst (P 0) (same_Some _ _ at) last
snoc_each P [] x each last (suc n) d at = absurd (none-some d at)
snoc_each P (y ∷ xs) x each last zero d at = each 0 d at
snoc_each P (y ∷ xs) x each last (suc n) d at =
    snoc_each (λ k e. P (suc k) e) xs x (λ k e found. each (suc k) e found) last n d at

-- domains at their places in a plan, with one more that fits the next place, are at their places
pub in_places_more : (plan : List DomainData) (domains : List DomainValue) (number : ℕ) (d : DomainValue)
    → AreInPlaces plan domains → number ≡ length domains → Fits plan number d
    → AreInPlaces plan (domains ++ d ∷ [])
in_places_more plan domains number d each is fits =
    snoc_each (Fits plan) domains d each (subst (λ (n : ℕ). Fits plan n d) is fits)

-- what an entry more has of a user's commands
commands_more : JournalsAddUp
    → (user : ℕ) (journal : List Entry) (i : ℕ) (entry : Entry) → slice_get journal i ≡ Some entry
    → commands_of user (expanded (take (i + 1) journal))
    ≡ commands_of user (expanded (take i journal)) ++ commands_of user (expanded (entry ∷ []))
commands_more law user journal i entry there =
    ap (λ (xs : List Entry). commands_of user (expanded xs))
    (take_more journal i entry (slice_get_within journal i entry there))
    ∙ ap (commands_of user) (law (take i journal) _)
    ∙ filter_map-append (command_from user) (expanded (take i journal)) _
    ∙ ap (λ (e : Entry). commands_of user (expanded (take i journal)) ++ commands_of user (expanded (e ∷ [])))
    (get_or_from_slice_get journal i entry entry there)

-- a list that goes on with a user's commands in the first entries, and in the next, goes on with one entry more
pub told_more : JournalsAddUp
    → (user : ℕ) (journal : List Entry) (first told now : List AnsweredCommand) (i : ℕ) (entry : Entry)
    → slice_get journal i ≡ Some entry → told ≡ first ++ commands_of user (expanded (take i journal))
    → now ≡ told ++ commands_of user (expanded (entry ∷ []))
    → now ≡ first ++ commands_of user (expanded (take (i + 1) journal))
told_more law user journal first told now i entry there so_far next =
    next ∙ ap (λ (xs : List AnsweredCommand). xs ++ commands_of user (expanded (entry ∷ []))) so_far
    ∙ append_assoc first (commands_of user (expanded (take i journal))) (commands_of user (expanded (entry ∷ [])))
    ∙ ap (λ (xs : List AnsweredCommand). first ++ xs) (sym (commands_more law user journal i entry there))

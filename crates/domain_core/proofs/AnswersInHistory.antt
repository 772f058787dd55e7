-- What callers are answered, and which of a history is whose, for the
-- laws `fitting_stays`, `histories_grow` and `own_commands_add_up`.
use Rattle.std.proofs.Common.{◌≡◌, ℕ, zero, suc, List, [], ◌∷◌, ◌++◌, replicate, Bool, true, false, ◌==◌, ◌&&◌, refl}
use Rattle.std.proofs.Common.{ap, ◌∙◌, sym}
use Rattle.std.proofs.lemmas.List.Elements.{filter-append}
use Rattle.t414_step.specs.declared.stepping.Stepped.{Stepped}
use Rattle.t414_step.specs.declared.stepping.Stepped.TheVariants.{Ran}
use Rattle.domain_core.specs.declared.event.By.{By}
use Rattle.domain_core.specs.declared.event.By.TheVariants.{User, Farm}
use Rattle.domain_core.specs.PrivateFarm.{State, answers, opening}
use Rattle.domain_core.specs.Journal.{AnsweredCall, answered_step, calls_of}
use Rattle.domain_core.specs.Commands.{is_own, own_commands}
use Rattle.domain_core.specs.Laws.{FittingStays, NextIsAnAnswer, OwnCommandsAddUp, StepsAreNobodys}
use Rattle.domain_core.proofs.Histories.{answers-append}

-- a domain that fits a plan goes on fitting while its part and its ports stay
pub fitting_stays : FittingStays
fitting_stays plan number d e fits part ports =
    record { domain = fits.domain; there = fits.there; part = fits.part ∙ sym part; ports = fits.ports ∙ sym ports }

-- what comes next after a history is the last answer to some list of calls
pub next_is_an_answer : NextIsAnAnswer
next_is_an_answer part history s call h = record {
  calls = calls_of history;
  told = answers part (opening part) (calls_of history);
  last =
      answers-append part (opening part) (calls_of history) (call ∷ [])
      ∙ ap (λ (x : State). answers part (opening part) (calls_of history) ++ answers part x (call ∷ [])) h.state;
}

-- a user's commands of two histories come one after the other
pub own_commands_add_up : OwnCommandsAddUp
own_commands_add_up user history later = filter-append (is_own user) history later

and_false : (b : Bool) → (b && false) ≡ false
and_false true = refl
and_false false = refl

no_command : (user : ℕ) (by : By) (node : ℕ) (answer : Stepped) → is_own user (answered_step by node answer) ≡ false
no_command user Farm node answer = refl
no_command user (User other) node answer = and_false (other == user)

none_replicated : (user : ℕ) (by : By) (node count : ℕ)
    → own_commands user (replicate count (answered_step by node Ran)) ≡ []
none_replicated user by node zero = refl
none_replicated user by node (suc count) = rw (no_command user by node Ran) (none_replicated user by node count)

-- Steps of a node are no command of any user
pub steps_are_nobodys : StepsAreNobodys
steps_are_nobodys user by node zero last = refl
steps_are_nobodys user by node (suc count) last =
    own_commands_add_up user (replicate count (answered_step by node Ran)) (answered_step by node last ∷ [])
    ∙ ap (λ (xs : List AnsweredCall). xs ++ own_commands user (answered_step by node last ∷ []))
    (none_replicated user by node count)
    ∙ rw (no_command user by node last) refl

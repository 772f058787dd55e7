-- What the screens of users show, who have given their passes back: the clause `screens` of `run_script`.
use Rattle.std.proofs.Common.{◌≡◌, ◌<◌, ◌∙◌, ℕ, zero, suc, List, [], ◌∷◌, ◌++◌, length, map, get_or}
use Rattle.std.proofs.Common.{slice_get, Option, Some, None, Ok, Err, All, IfSome, refl, sym, ap, subst, arith}
use Rattle.std.specs.Prelude.{IfOk, Result, string_bytes}
use Rattle.std.proofs.lemmas.List.{length-map, get_or-map}
use Rattle.std.proofs.lemmas.List.Elements.{All-append, All-get_or, All-from_recursion}
use Rattle.std.proofs.lemmas.Option.{slice_get_within, get_or_from_slice_get}
use Rattle.plan_rules.specs.Data.{DomainData}
use Rattle.script_lines.specs.declared.command.Command.{Command}
use Rattle.script_lines.specs.declared.script.ScriptLine.{ScriptLine}
use Rattle.domain_core.specs.declared.event.AnsweredCommand.{AnsweredCommand}
use Rattle.farm_service.specs.declared.closed.ClosedDomain.{ClosedDomain}
use Rattle.farm_service.specs.Passes.{SessionValue, UserPassValue, fresh_pass, passes_opened, passes_from, fresh_passes}
use Rattle.farm_service.specs.Closed.{AreListed, IsListed, IsFull, IsNearlyFull, MetFullTruly, AllMetFullTruly}
use Rattle.farm_service.specs.Closed.{history_of}
use Rattle.farm_service.specs.Commands.{commands_of}
use Rattle.line_answers.specs.Lines.{AreAnsweredLines}
use Rattle.line_answers.specs.Sessions.{with_all}
use Rattle.line_answers.specs.Laws.{FullIsSaidTruly}
use Rattle.farm_program.specs.declared.farm.ScriptOutcome.{ScriptOutcome}
use Rattle.farm_program.specs.declared.farm.UserOutcomes.{UserOutcomes}
use Rattle.farm_program.specs.declared.users.UserOutcome.{UserOutcome}
use Rattle.farm_program.specs.Users.{commands_at, session_of, IsLeftBy, HaveAnswered}
use Rattle.farm_program.specs.Screens.{IsScreen, AreScreens}
use Rattle.farm_program.proofs.Places.{read_at, there_is}

-- ---- a pass before its user has asked anything

unasked_in : (domain count : ℕ) → All (λ p. p.told ≡ []) (passes_opened domain count)
unasked_in domain zero = All-from_recursion (λ p. p.told ≡ []) [] tt
unasked_in domain (suc count) =
    All-append (λ p. p.told ≡ []) (passes_opened domain count) (fresh_pass domain count ∷ []) (unasked_in domain count)
    (All-from_recursion (λ p. p.told ≡ []) (fresh_pass domain count ∷ []) (refl, tt))

unasked_from : (number : ℕ) (plan : List DomainData) → All (λ p. p.told ≡ []) (passes_from number plan)
unasked_from number [] = All-from_recursion (λ p. p.told ≡ []) [] tt
unasked_from number (d ∷ plan) =
    All-append (λ p. p.told ≡ []) (passes_opened number (length d.users)) (passes_from (suc number) plan)
    (unasked_in number (length d.users)) (unasked_from (suc number) plan)

-- ---- screens

some_then : {A : Type 0} (value : Option A) (P Q : A → Type 0) → ((x : A) → P x → Q x) → IfSome value P → IfSome value Q
some_then None P Q then given = tt
some_then (Some x) P Q then given = then x given

-- the screen of a user who has given the pass back
one_screen : FullIsSaidTruly → (plan : List DomainData) (closed : List ClosedDomain) (pass : UserPassValue)
    (name : List ℕ) (commands : List Command) (end : UserOutcome)
    → pass.told ≡ [] → IsLeftBy plan pass name commands end
    → IsListed closed end.pass → MetFullTruly plan closed end.pass
    → IsScreen plan closed pass name commands (string_bytes end.screen)
one_screen law plan closed pass name commands end unasked lines listed truly =
    let P : Type 0 = IsFull plan closed pass.domain in
    let near : Type 0 = IsNearlyFull plan closed pass.domain in
    let screen : List ℕ = string_bytes end.screen in
    let at : session_of plan end.pass
    ≡ with_all (session_of plan pass) lines.told end.pass.met_full end.pass.met_nearly_full end.pass.met_no_room =
    lines.gains.list in
    let told : end.pass.told ≡ lines.told =
    ap (λ (s : SessionValue). s.pass.told) at ∙ ap (λ (before : List AnsweredCommand). before ++ lines.told) unasked in
    let own : AreAnsweredLines P near (session_of plan pass) name commands lines.told screen =
    law plan closed (session_of plan pass) (session_of plan end.pass) name commands screen lines truly in
    let theirs : AreAnsweredLines P near (session_of plan pass) name commands end.pass.told screen =
    subst (λ (list : List AnsweredCommand). AreAnsweredLines P near (session_of plan pass) name commands list screen)
    (sym told)
    own in
    let here : IfSome (slice_get closed pass.domain) (λ c. commands_of pass.user (history_of c) ≡ end.pass.told) =
    subst (λ (s : SessionValue). IfSome (slice_get closed s.pass.domain)
    (λ c. commands_of s.pass.user (history_of c) ≡ end.pass.told))
    at listed in
    some_then (slice_get closed pass.domain) (λ c. commands_of pass.user (history_of c) ≡ end.pass.told)
    (λ c. AreAnsweredLines P near (session_of plan pass) name commands (commands_of pass.user (history_of c)) screen)
    (λ c is. subst (λ (list : List AnsweredCommand). AreAnsweredLines P near
    (session_of plan pass) name commands list screen)
    (sym is) theirs)
    here

-- users who were all answered, and whose commands closing lists, have the screens of the plan's users
all_screens : FullIsSaidTruly → (plan : List DomainData) (lines : List ScriptLine) (ends : List UserOutcome)
    (passes : List UserPassValue) (screens : List (List ℕ)) (closed : List ClosedDomain)
    → HaveAnswered plan lines ends → passes ≡ map (λ e. e.pass) ends
    → screens ≡ map (λ e. string_bytes e.screen) ends → AreListed closed passes → AllMetFullTruly plan closed passes
    → AreScreens plan lines closed screens
all_screens law plan lines ends passes screens closed answered left shown listed truly = record {
  count = ap length shown ∙ length-map ends (λ (e : UserOutcome). string_bytes e.screen) ∙ answered.count;
  each = λ place pass name screen at_pass at_name at_screen.
      let within : place < length ends =
      omega (arith, slice_get_within (fresh_passes plan) place pass at_pass, answered.count) in
      let e = there_is ends place within in
      let unasked : pass.told ≡ [] =
      subst (λ (p : UserPassValue). p.told ≡ []) (get_or_from_slice_get (fresh_passes plan) place pass pass at_pass)
      (All-get_or (λ p. p.told ≡ []) (fresh_passes plan) place pass
      (slice_get_within (fresh_passes plan) place pass at_pass) (unasked_from 0 plan)) in
      let text : string_bytes e.0.screen ≡ screen =
      read_at (λ (d : UserOutcome). string_bytes d.screen) ends screens place e.0 screen (sym shown) e.1 at_screen in
      subst (IsScreen plan closed pass name (commands_at lines place)) text
      (one_screen law plan closed pass name (commands_at lines place) e.0 unasked
      (answered.each place pass name e.0 at_pass at_name e.1)
      (at_pass_of (IsListed closed) place e.0 e.1 within listed)
      (at_pass_of (MetFullTruly plan closed) place e.0 e.1 within truly));
}
  where
    at_pass_of : (P : UserPassValue → Type 0) (i : ℕ) (e : UserOutcome) → slice_get ends i ≡ Some e → i < length ends
        → All P passes → P e.pass
    at_pass_of P i e here less all =
        subst P
        (ap (λ (ps : List UserPassValue). get_or ps i e.pass) left
        ∙ get_or-map (λ (d : UserOutcome). d.pass) ends i e e.pass less
        ∙ ap (λ (d : UserOutcome). d.pass) (get_or_from_slice_get ends i e e here))
        (All-get_or P passes i e.pass
        (omega (arith, less, ap length left, length-map ends (λ (d : UserOutcome). d.pass))) all)

-- the same of users with whose passes the service was then closed
pub closed_screens : {E : Type 0} → FullIsSaidTruly → (plan opened_plan : List DomainData) (lines : List ScriptLine)
    (ends : List UserOutcome)
    (left : UserOutcomes) (outcome : Result ScriptOutcome E)
    → opened_plan ≡ plan → HaveAnswered opened_plan lines ends
    → left.passes.items ≡ map (λ e. e.pass) ends
    → map string_bytes left.screens.items ≡ map (λ e. string_bytes e.screen) ends
    → IfOk outcome (λ e. AreListed e.closed.domains.items left.passes.items)
    → IfOk outcome (λ e. AllMetFullTruly opened_plan e.closed.domains.items left.passes.items)
    → IfOk outcome (λ e. e.screens ≡ left.screens)
    → IfOk outcome (λ e. AreScreens plan lines e.closed.domains.items (map string_bytes e.screens.items))
closed_screens law plan opened_plan lines ends left (Err e) same answered passes screens listed truly kept = tt
closed_screens law plan opened_plan lines ends left (Ok e) same answered passes screens listed truly kept =
    subst (λ (p : List DomainData). AreScreens p lines e.closed.domains.items (map string_bytes e.screens.items)) same
    (all_screens law opened_plan lines ends left.passes.items (map string_bytes e.screens.items) e.closed.domains.items
    answered passes (ap (λ v. map string_bytes v.items) kept ∙ screens) listed truly)

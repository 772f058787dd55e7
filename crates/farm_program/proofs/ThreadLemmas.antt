-- What threads leave that kept their promises: the contracts of `join_users`, `join_workers` and `run_in`.
use Rattle.std.proofs.Common.{◌≡◌, ◌<◌, ◌∙◌, ℕ, List, length, map, get_or, slice_get, Some, Ok, sym, ap, subst, arith}
use Rattle.std.specs.Prelude.{IfOk, Result, string_bytes}
use Rattle.std.specs.List.{range_with_len}
use Rattle.std.proofs.lemmas.List.{length-map, get_or-map, map-id}
use Rattle.std.proofs.lemmas.Option.{slice_get_within, get_or_from_slice_get}
use Rattle.plan_rules.specs.Data.{DomainData}
use Rattle.script_lines.specs.declared.command.Command.{Command}
use Rattle.script_lines.specs.declared.script.ScriptLine.{ScriptLine}
use Rattle.farm_service.specs.Passes.{SessionValue, fresh_passes}
use Rattle.line_answers.specs.Sessions.{AreAnswered}
use Rattle.plan_rules.specs.Users.{all_names}
use Rattle.farm_program.specs.declared.users.User.{User}
use Rattle.farm_program.specs.declared.users.UserOutcome.{UserOutcome}
use Rattle.farm_program.specs.Users.{commands_at, session_of, AreEndsOf, AreUsersOf, HasAnswered, HaveAnswered, IsLeftBy}
use Rattle.farm_program.proofs.Places.{counted, mapped, read_at, same_lists, some_same, there_is}

-- at each place what a thread returned is what its handle promised
abbrev pub AreKept : {H A E : Type 0} → (H → A → Type 0) → List H → List (Result A E) → Type 0
AreKept {H} {A} {E} P hs returned =
    (i : ℕ) (d : Result A E) → i < length hs → (h : H) × (h ≡ get_or hs i h) × IfOk (get_or returned i d) (P h)

-- what one of them left, if none is an error
kept_at : {H A E : Type 0} (P : H → A → Type 0) (hs : List H) (returned : List (Result A E)) (left : List A)
    → AreKept P hs returned → map Ok left ≡ returned → length left ≡ length hs
    → (i : ℕ) (h : H) (a : A) → slice_get hs i ≡ Some h → slice_get left i ≡ Some a → P h a
kept_at {H} {A} {E} P hs returned left kept all count i h a at_h at_a =
    let less : i < length hs = slice_get_within hs i h at_h in
    let k = kept i (Ok a) less in
    let is_h : k.0 ≡ h = k.1 ∙ get_or_from_slice_get hs i h k.0 at_h in
    let is_a : get_or returned i (Ok a) ≡ Ok a =
    ap (λ (rs : List (Result A E)). get_or rs i (Ok a)) (sym all)
    ∙ get_or-map (λ (x : A). Ok x) left i a (Ok a) (omega (arith, less, count))
    ∙ ap (λ (x : A). Ok x) (get_or_from_slice_get left i a a at_a) in
    subst (λ (x : H). P x a) is_h (subst (λ (r : Result A E). IfOk r (P k.0)) is_a k.2)

many_left : {H A E : Type 0} (hs : List H) (returned : List (Result A E)) (left : List A)
    → length returned ≡ length hs → map Ok left ≡ returned → length left ≡ length hs
many_left {H} {A} {E} hs returned left many all =
    sym (length-map left (λ (x : A). Ok x)) ∙ ap length all ∙ many

-- threads of users leave their ends
pub users_left : {H E : Type 0} (user : H → User) (hs : List H) (returned : List (Result UserOutcome E))
    (ends : List UserOutcome)
    → AreKept (λ h. HasAnswered (user h)) hs returned → length returned ≡ length hs → map Ok ends ≡ returned
    → AreEndsOf (map user hs) ends
users_left {H} {E} user hs returned ends kept many all =
    let count : length ends ≡ length hs = many_left hs returned ends many all in record {
      count = count ∙ sym (length-map hs user);
      each = λ place u end at_u at_end.
          let within : place < length hs =
          omega (arith, slice_get_within (map user hs) place u at_u, length-map hs user) in
          let h = there_is hs place within in
          let is_u : user h.0 ≡ u = some_same (user h.0) u (sym (mapped user hs place h.0 h.1) ∙ at_u) in
          subst (λ (v : User). HasAnswered v end) is_u
          (kept_at (λ h. HasAnswered (user h)) hs returned ends kept all count place h.0 end h.1 at_end);
    }

-- threads that give back what they took leave exactly that
pub same_left : {H A E : Type 0} (taken : H → A) (hs : List H) (returned : List (Result A E)) (left : List A)
    → AreKept (λ h a. a ≡ taken h) hs returned → length returned ≡ length hs → map Ok left ≡ returned
    → left ≡ map taken hs
same_left {H} {A} {E} taken hs returned left kept many all =
    let count : length left ≡ length hs = many_left hs returned left many all in
    sym (map-id left)
    ∙ same_lists (λ (a : A). a) taken left hs count
    (λ i a h at_a at_h. kept_at (λ h a. a ≡ taken h) hs returned left kept all count i h a at_h at_a)

-- users of a plan who left their ends have answered its script
pub plan_answered : (plan : List DomainData) (lines : List ScriptLine) (steps : ℕ) (users : List User)
    (ends : List UserOutcome)
    → AreUsersOf plan lines steps users → AreEndsOf users ends → HaveAnswered plan lines ends
plan_answered plan lines steps users ends are left =
    let sessions : List SessionValue = map (session_of plan) (fresh_passes plan) in
    let many : length users ≡ length (fresh_passes plan) =
    sym (length-map users (λ (u : User). session_of u.service.now.plan u.pass)) ∙ ap length are.sessions
    ∙ length-map (fresh_passes plan) (session_of plan) in record {
      count = left.count ∙ many;
      each = λ place pass name end at_pass at_name at_end.
          let within : place < length users =
          omega (arith, slice_get_within (fresh_passes plan) place pass at_pass, many) in
          let u = there_is users place within in
          let session : session_of u.0.service.now.plan u.0.pass ≡ session_of plan pass =
          read_at (λ (w : User). session_of w.service.now.plan w.pass) users sessions place u.0 (session_of plan pass)
          are.sessions u.1 (mapped (session_of plan) (fresh_passes plan) place pass at_pass) in
          let named : u.0.name.now ≡ name =
          read_at (λ (w : User). w.name.now) users (all_names plan) place u.0 name are.names u.1 at_name in
          let asked : commands_at u.0.lines.now u.0.place ≡ commands_at lines place =
          read_at (λ (w : User). commands_at w.lines.now w.place) users
          (map (commands_at lines) (range_with_len 0 (length users))) place u.0 (commands_at lines place)
          are.commands u.1
          (mapped (commands_at lines) (range_with_len 0 (length users)) place place
          (counted place (length users) within)) in
          subst (λ (s : SessionValue). AreAnswered name (commands_at lines place) s (session_of s.plan end.pass)
          (string_bytes end.screen))
          session
          (subst (λ (cs : List Command). IsLeftBy u.0.service.now.plan u.0.pass name cs end) asked
          (subst (λ (n : List ℕ). IsLeftBy u.0.service.now.plan u.0.pass n
          (commands_at u.0.lines.now u.0.place) end)
          named (left.each place u.0 end u.1 at_end)));
    }

-- The users of a plan, one after another, and what their lines ask: the contracts of `script_users` and `commands_at`.
use Rattle.std.proofs.Common.{◌≡◌, ◌<◌, ◌+◌, ℕ, zero, suc, List, [], ◌∷◌, ◌++◌, Bor, length}
use Rattle.std.proofs.Common.{map, take, get_or, All}
use Rattle.std.proofs.Common.{refl, sym, ap, ◌∙◌, subst, arith, length-append}
use Rattle.std.specs.Prelude.{◌==◌, false, filter}
use Rattle.std.specs.List.{range_with_len, flat_map}
use Rattle.std.proofs.lemmas.Bool.{eq-eqb}
use Rattle.std.proofs.lemmas.List.{append-nil, length-map, map-append, map-id, take_more, take_all, get_or-map}
use Rattle.std.proofs.lemmas.List.Elements.{All-append, All-from_recursion, filter-append}
use Rattle.std.proofs.lemmas.List.FromFn.{map-range_with_len_more}
use Rattle.plan_rules.specs.Data.{DomainData, UserData}
use Rattle.script_lines.specs.declared.command.Command.{Command}
use Rattle.script_lines.specs.declared.script.ScriptLine.{ScriptLine}
use Rattle.farm_service.specs.Passes.{UserPassValue, fresh_pass, passes_opened, passes_from, fresh_passes}
use Rattle.farm_program.specs.declared.users.User.{User}
use Rattle.plan_rules.specs.Users.{all_names}
use Rattle.farm_program.specs.Users.{commands_at, session_of, AreUsersOf}

-- ---- commands

commands_more : (lines : List ScriptLine) (line : ScriptLine) (place : ℕ)
    → commands_at (lines ++ line ∷ []) place ≡ commands_at lines place ++ commands_at (line ∷ []) place
commands_more lines line place =
    ap (map (λ (l : ScriptLine). l.command)) (filter-append (λ l. l.user == place) lines (line ∷ []))
    ∙ map-append (λ (l : ScriptLine). l.command) (filter (λ l. l.user == place) lines)
    (filter (λ l. l.user == place) (line ∷ []))

line_more : (lines : List ScriptLine) (i place : ℕ) (line : ScriptLine)
    → i < length lines → line ≡ get_or lines i line
    → commands_at (take (i + 1) lines) place ≡ commands_at (take i lines) place ++ commands_at (line ∷ []) place
line_more lines i place line within is =
    ap (λ (ls : List ScriptLine). commands_at ls place) (take_more lines i line within)
    ∙ ap (λ (l : ScriptLine). commands_at (take i lines ++ l ∷ []) place) (sym is)
    ∙ commands_more (take i lines) line place

-- a line of the user of a place adds its command to the user's
pub line_of_user : (lines : List ScriptLine) (i place : ℕ) (line : ScriptLine) (commands more : List (Bor Command))
    (command : Bor Command)
    → i < length lines → line ≡ get_or lines i line → line.user ≡ place
    → map (λ c. c.now) commands ≡ commands_at (take i lines) place → more ≡ commands ++ command ∷ []
    → command.now ≡ line.command
    → map (λ c. c.now) more ≡ commands_at (take (i + 1) lines) place
line_of_user lines i place line commands more command within is his before added same =
    ap (map (λ (c : Bor Command). c.now)) added
    ∙ map-append (λ (c : Bor Command). c.now) commands (command ∷ [])
    ∙ (λ k. before k ++ same k ∷ [])
    ∙ ap (λ (some : List Command). commands_at (take i lines) place ++ some) (rw (eq-eqb line.user place his) refl)
    ∙ sym (line_more lines i place line within is)

-- a line of another user adds none
pub line_of_another : (lines : List ScriptLine) (i place : ℕ) (line : ScriptLine) (commands : List (Bor Command))
    → i < length lines → line ≡ get_or lines i line → line.user == place ≡ false
    → map (λ c. c.now) commands ≡ commands_at (take i lines) place
    → map (λ c. c.now) commands ≡ commands_at (take (i + 1) lines) place
line_of_another lines i place line commands within is other before =
    before ∙ sym (append-nil (commands_at (take i lines) place))
    ∙ ap (λ (some : List Command). commands_at (take i lines) place ++ some) (rw other refl)
    ∙ sym (line_more lines i place line within is)

-- what texts that are lent hold
abbrev pub texts : List (Bor (List ℕ)) → List (List ℕ)
texts names = map (λ n. n.now) names

-- ---- passes

length_in : (number count : ℕ) → length (passes_opened number count) ≡ count
length_in number zero = refl
length_in number (suc count) =
    omega (
      arith,
      length-append (passes_opened number count) (fresh_pass number count ∷ []),
      length_in number count,
    )

length_names : (number : ℕ) (plan : List DomainData) → length (all_names plan) ≡ length (passes_from number plan)
length_names number [] = refl
length_names number (d ∷ plan) =
    omega (
      arith,
      length-map (flat_map (λ (e : DomainData). e.users) (d ∷ plan)) (λ (u : UserData). u.name),
      length-map (flat_map (λ (e : DomainData). e.users) plan) (λ (u : UserData). u.name),
      length-append d.users (flat_map (λ (e : DomainData). e.users) plan),
      length-append (passes_opened number (length d.users)) (passes_from (suc number) plan),
      length_in number (length d.users),
      length_names (suc number) plan,
    )

-- a plan has as many names as passes
pub as_many : (plan : List DomainData) → length (all_names plan) ≡ length (fresh_passes plan)
as_many plan = length_names 0 plan

-- ---- users

-- a user for each of these passes, which are the first
pub record AreUsersSoFar (plan : List DomainData) (lines : List ScriptLine) (steps : ℕ)
    (passes : List UserPassValue) (users : List User) : Type 0 where
  pub count : length users ≡ length passes
  pub sessions : map (λ u. session_of u.service.now.plan u.pass) users ≡ map (session_of plan) passes
  pub names : map (λ u. u.name.now) users ≡ take (length passes) (all_names plan)
  pub commands :
      map (λ u. commands_at u.lines.now u.place) users ≡ map (commands_at lines) (range_with_len 0 (length passes))
  pub quantum : All (λ u. u.quantum.steps ≡ steps) users

-- the place of the next pass has a name
pub place_within : (plan : List DomainData) (names : List (Bor (List ℕ)))
    (passes : List UserPassValue) (n place : ℕ)
    → n < length passes → passes ≡ fresh_passes plan → texts names ≡ all_names plan → place ≡ n
    → place < length names
place_within plan names passes n place less fresh named is =
    omega (
      arith,
      less,
      is,
      ap length fresh,
      as_many plan,
      ap length named,
      length-map names (λ (n : Bor (List ℕ)). n.now),
    )

-- users of the first passes, with one of the next pass, are those of one pass more
pub user_more : (plan : List DomainData) (lines : List ScriptLine) (steps : ℕ) (passes : List UserPassValue)
    (pass : UserPassValue) (users more : List User) (u : User) (names : List (Bor (List ℕ))) (place : ℕ)
    → AreUsersSoFar plan lines steps passes users → texts names ≡ all_names plan → place ≡ length passes
    → place < length names → session_of u.service.now.plan u.pass ≡ session_of plan pass
    → u.name ≡ get_or names place u.name → commands_at u.lines.now u.place ≡ commands_at lines place
    → u.quantum.steps ≡ steps → more ≡ users ++ u ∷ []
    → AreUsersSoFar plan lines steps (passes ++ pass ∷ []) more
user_more plan lines steps passes pass users more u names place before named at within session name asked quantum is =
    let n : ℕ = length passes in
    let longer : length (passes ++ pass ∷ []) ≡ n + 1 = length-append passes (pass ∷ []) in
    let names_there : length (all_names plan) ≡ length names =
    ap length (sym named) ∙ length-map names (λ (m : Bor (List ℕ)). m.now) in
    let text : u.name.now ≡ get_or (all_names plan) n u.name.now =
    ap (λ (m : Bor (List ℕ)). m.now) name
    ∙ sym (get_or-map (λ (m : Bor (List ℕ)). m.now) names place u.name u.name.now within)
    ∙ (λ k. get_or (named k) (at k) u.name.now) in
    record {
      count = omega (arith, before.count, ap length is, length-append users (u ∷ []), longer);
      sessions =
          ap (map (λ (v : User). session_of v.service.now.plan v.pass)) is
          ∙ map-append (λ (v : User). session_of v.service.now.plan v.pass) users (u ∷ [])
          ∙ (λ k. before.sessions k ++ session k ∷ [])
          ∙ sym (map-append (session_of plan) passes (pass ∷ []));
      names =
          ap (map (λ (v : User). v.name.now)) is
          ∙ map-append (λ (v : User). v.name.now) users (u ∷ [])
          ∙ (λ k. before.names k ++ text k ∷ [])
          ∙ sym (take_more (all_names plan) n u.name.now (omega (arith, at, within, names_there)))
          ∙ ap (λ (m : ℕ). take m (all_names plan)) (sym longer);
      commands =
          ap (map (λ (v : User). commands_at v.lines.now v.place)) is
          ∙ map-append (λ (v : User). commands_at v.lines.now v.place) users (u ∷ [])
          ∙ (λ k. before.commands k ++ (asked ∙ ap (commands_at lines) at) k ∷ [])
          ∙ sym (map-range_with_len_more (commands_at lines) 0 n n (omega arith))
          ∙ ap (λ (m : ℕ). map (commands_at lines) (range_with_len 0 m)) (sym longer);
      quantum =
          subst (All (λ (v : User). v.quantum.steps ≡ steps)) (sym is)
          (All-append (λ (v : User). v.quantum.steps ≡ steps) users (u ∷ []) before.quantum
          (All-from_recursion (λ (v : User). v.quantum.steps ≡ steps) (u ∷ []) (quantum, tt)));
    }

-- users of all passes of a plan are the plan's users
pub all_users : (plan : List DomainData) (lines : List ScriptLine) (steps : ℕ)
    (yielded passes : List UserPassValue) (users : List User)
    → AreUsersSoFar plan lines steps yielded users → map (λ p. p) yielded ≡ passes → passes ≡ fresh_passes plan
    → All (λ l. l.user < length (all_names plan)) lines
    → AreUsersOf plan lines steps users
all_users plan lines steps yielded passes users so_far ended fresh within =
    let all : yielded ≡ fresh_passes plan = sym (map-id yielded) ∙ ended ∙ fresh in
    let count : length users ≡ length (all_names plan) = so_far.count ∙ ap length all ∙ sym (as_many plan) in
    record {
      sessions = so_far.sessions ∙ ap (map (session_of plan)) all;
      names = so_far.names ∙ take_all (length yielded) (all_names plan) (omega (arith, so_far.count, count));
      commands = so_far.commands ∙ ap (λ (n : ℕ). map (commands_at lines) (range_with_len 0 n)) (sym so_far.count);
      nobody_else = subst (λ (n : ℕ). All (λ (l : ScriptLine). l.user < n) lines) (sym count) within;
      quantum = so_far.quantum;
    }

-- What the words of the command line say of the program's options: the clauses `refused`, `in_range` and `said` of
-- `settings`.
use Rattle.std.proofs.Common.{zero, suc, ◌≡◌, ◌∙◌, ◌<◌, ◌≤◌, ◌&&◌, ◌^◌, ap, ℕ, Bool, true}
use Rattle.std.proofs.Common.{false, List, [], ◌∷◌, length, map, Option, Some, None, refl}
use Rattle.std.proofs.Common.{sym, subst, inl, inr, arith, codes, not, is_some, slice_index}
use Rattle.std.specs.Prelude.{pos, unwrap_or, Result, Ok}
use Rattle.std.specs.List.{All, slice_index_or}
use Rattle.std.specs.Str.{bytes_eq}
use Rattle.std.specs.Str.Parse.{ParsesUnsigned}
use Rattle.std.proofs.lemmas.List.{nil_from_length, length-map}
use Rattle.std.proofs.lemmas.Bool.{eqb-true}
use Rattle.clap.specs.Words.{App, HasMatchesOf, Rule, Text, app_of, matches_of, one_of, rule_of, rows_of}
use Rattle.clap.specs.Lexer.{without_minus}
use Rattle.clap.specs.Texts.{items_of}
use Rattle.clap.specs.Simple.{has_plain_fields, is_simple}
use Rattle.clap.specs.Faults.{is_simple_and_free}
use Rattle.clap.specs.Facts.{args_of, groups_of}
use Rattle.clap.specs.Built.{IsParsedFrom, NamesNoGroup}
use Rattle.clap.specs.Matches.{ReadsOne, found_of, one_text}
use Rattle.clap.specs.Walk.{is_empty, is_simple_arg, texts}
use Rattle.clap.specs.declared.builder.arg.Arg.{Arg}
use Rattle.clap.specs.declared.builder.command.Command.{Command}
use Rattle.clap.specs.declared.builder.command.Command.TheOpen.{Command-F}
use Rattle.clap.specs.declared.builder.command.Command.TheViews.{out-Command}
use Rattle.clap.specs.declared.builder.value_parser.ValueParser.{ValueParser}
use Rattle.clap.specs.declared.builder.value_parser.ValueParser.TheVariants.{Signed}
use Rattle.clap.specs.declared.parser.matches.ArgMatches.{ArgMatches}
use Rattle.clap.proofs.CallerReads.{signed_reads}
use Rattle.clap.proofs.OnLiterals.{clap_on_literals}
use Rattle.clap.proofs.WalkLemmas.{one_text-rows}
use Rattle.farm_cli.specs.Settings.{IsSaid, farm_command, number_option}
use Rattle.farm_cli.proofs.Options.{IsOption, option_reads}

-- `clap` defines the matches of the program's command
pub farm_is_simple : is_simple farm_command ≡ true
unfolding clap_on_literals
farm_is_simple = refl

-- and no argument of it has a rule on another, so `clap` defines which words are refused
pub farm_is_free : is_simple_and_free farm_command ≡ true
unfolding clap_on_literals
farm_is_free = refl

abbrev workers_rule : Rule
workers_rule = number_option (codes "workers") (codes "2") (Signed (pos 1) (pos 8))

abbrev quantum_rule : Rule
quantum_rule = number_option (codes "quantum") (codes "256") (Signed (pos 1) (pos 4096))

-- ---- the arguments of a command that is the program's

-- the first four of some tests that all hold
first_four : (flag other_flag third_flag fourth_flag rest : Bool)
    → (flag && (other_flag && (third_flag && (fourth_flag && rest)))) ≡ true
    → (flag ≡ true) × (other_flag ≡ true) × (third_flag ≡ true) × (fourth_flag ≡ true)
first_four true true true true rest same = (refl, refl, refl, refl)
first_four false other_flag third_flag fourth_flag rest same = cc
first_four true false third_flag fourth_flag rest same = cc
first_four true true false fourth_flag rest same = cc
first_four true true true false rest same = cc

empty_is : {X : Type 0} (xs : List X) → is_empty xs ≡ true → xs ≡ []
empty_is xs same = nil_from_length xs (eqb-true (length xs) 0 same)

none_is : {X : Type 0} (value : Option X) → not (is_some value) ≡ true → value ≡ None
none_is None same = refl
none_is (Some x) same = cc

-- a list of two, from which these are made
record AreTwo {X Y : Type 0} (f : X → Y) (first second : Y) (xs : List X) : Type 0 where
  one : X
  other : X
  list : xs ≡ one ∷ other ∷ []
  one_is : f one ≡ first
  other_is : f other ≡ second

two_of : {X Y : Type 0} (f : X → Y) (first second : Y) (xs : List X) → map f xs ≡ first ∷ second ∷ []
    → AreTwo f first second xs
two_of f first second [] same = cc
two_of f first second (x ∷ []) same = cc
two_of f first second (x ∷ y ∷ z ∷ xs) same = cc
two_of f first second (x ∷ y ∷ []) same = record {
  one = x;
  other = y;
  list = refl;
  one_is = ap (λ ys. slice_index_or ys 0 first) same;
  other_is = ap (λ ys. slice_index_or ys 1 first) same;
}

not_is : (b : Bool) → not b ≡ true → b ≡ false
not_is false same = refl
not_is true same = cc

-- what an argument that uses no special setting lacks
simple_parts : (arg : Arg) → is_simple_arg arg ≡ true
    → (is_empty arg.overrides.items ≡ true) × (is_empty arg.default_vals_ifs.items ≡ true)
    × (is_empty arg.groups.items ≡ true) × (not (is_some arg.val_delim) ≡ true)
simple_parts arg simple =
    first_four (is_empty arg.overrides.items) (is_empty arg.default_vals_ifs.items)
    (is_empty arg.groups.items) (not (is_some arg.val_delim))
    (not (is_some arg.terminator)
    && (not arg.allow_hyphen_values
    && (not arg.allow_negative_numbers && (not arg.require_equals && (not arg.last && not arg.global)))))
    simple

-- an argument of a simple rule names no group
without_groups : (arg : Arg) (other_rule : Rule) → rule_of arg ≡ other_rule → other_rule.is_simple ≡ true
    → arg.groups.items ≡ []
without_groups arg other_rule is simple = empty_is arg.groups.items
    (simple_parts arg (ap (λ (other_rule : Rule). other_rule.is_simple) is ∙ simple)).2

-- an argument of such a rule is an option
is_option : (arg : Arg) (name default : Text) (numbers : ValueParser) → rule_of arg ≡ number_option name default numbers
    → IsOption arg numbers
is_option arg name default numbers is =
    let parts = simple_parts arg (ap (λ (r : Rule). r.is_simple) is) in
    let range : arg.num_vals ≡ None = ap (λ (r : Rule). r.range) is in
    let defaults : length (texts (items_of arg.default_vals)) ≡ 1 = ap (λ (r : Rule). length r.defaults) is in
    let many : length (items_of arg.default_vals) ≡ 1 =
    sym (length-map (items_of arg.default_vals) (λ s. s.now)) ∙ defaults in
    record {
      set = ap (λ (r : Rule). r.action) is;
      least = rw range (omega arith);
      parser = ap (λ (r : Rule). r.parser) is;
      delimiter = none_is arg.val_delim parts.3;
      wants = (empty_is arg.default_vals_ifs.items parts.1, omega arith);
    }

-- ---- what an option of the program's gives

-- an id that is this text is no empty one, and no id of a flag that building adds
abbrev IsOwnId : Text → Type 0
IsOwnId id = (id ≡ [] → ⊥) × (id ≡ codes "help" → ⊥) × (id ≡ codes "version" → ⊥)

workers_own : IsOwnId (codes "workers")
workers_own = (
  λ e. let bad = ap length e in absurd (omega arith),
  λ e. let bad = ap length e in absurd (omega arith),
  λ e. let bad = ap (λ t. slice_index t 1) e in absurd (omega arith),
)

quantum_own : IsOwnId (codes "quantum")
quantum_own = (
  λ e. let bad = ap length e in absurd (omega arith),
  λ e. let bad = ap length e in absurd (omega arith),
  λ e. let bad = ap (λ t. slice_index t 1) e in absurd (omega arith),
)

-- the two ids differ, so that each is at one place
one_place : (arg other_arg : Arg) (k : ℕ) (third_arg : Arg)
    → rule_of arg ≡ workers_rule → rule_of other_arg ≡ quantum_rule → k < 2
    → (j : ℕ) (fourth_arg : Arg) → j < 2
    → bytes_eq (slice_index_or (arg ∷ other_arg ∷ []) j fourth_arg).id.now
    (slice_index_or (arg ∷ other_arg ∷ []) k third_arg).id.now ≡ true
    → j ≡ k
one_place arg other_arg zero third_arg workers quantum lt zero fourth_arg low same = refl
one_place arg other_arg (suc zero) third_arg workers quantum lt (suc zero) fourth_arg low same = refl
one_place arg other_arg zero third_arg workers quantum lt (suc zero) fourth_arg low same =
    let ids : bytes_eq (codes "quantum") (codes "workers") ≡ true =
    rw (ap (λ (r : Rule). r.id) workers, ap (λ (r : Rule). r.id) quantum) at same in
    cc
one_place arg other_arg (suc zero) third_arg workers quantum lt zero fourth_arg low same =
    let ids : bytes_eq (codes "workers") (codes "quantum") ≡ true =
    rw (ap (λ (r : Rule). r.id) workers, ap (λ (r : Rule). r.id) quantum) at same in
    cc
one_place arg other_arg k third_arg workers quantum lt (suc (suc j)) fourth_arg low same =
    absurd (omega arith)
one_place arg other_arg (suc (suc k)) third_arg workers quantum lt j fourth_arg low same =
    absurd (omega arith)

-- what a plain command lacks
plain_parts : (step : Command-F Command) → has_plain_fields step ≡ true
    → (is_empty step.groups.items ≡ true) × (not step.has_globals ≡ true)
plain_parts step plain =
    let parts =
    first_four (is_empty step.groups.items) (not step.allow_external_subcommands) (not step.has_globals)
    (not step.infer_long_args)
    (not step.allow_missing_positional
    && (not step.infer_subcommands
    && (not step.args_conflicts_with_subcommands
    && (not step.subcommand_precedence_over_arg
    && (not (is_some step.long_flag)
    && (not (is_some step.short_flag)
    && (is_empty step.long_flag_aliases.items && is_empty step.short_flag_aliases.items)))))))
    plain in
    (parts.0, parts.2)

all_without_groups : (arg other_arg : Arg) → arg.groups.items ≡ [] → other_arg.groups.items ≡ []
    → All (λ (x : Arg). x.groups.items ≡ []) (arg ∷ other_arg ∷ [])
all_without_groups arg other_arg first second zero d lt = first
all_without_groups arg other_arg first second (suc zero) d lt = second
all_without_groups arg other_arg first second (suc (suc k)) d lt = absurd (omega arith)

-- a number that was read of an option's text
module _ (command : Command) (arg_matches : ArgMatches) (words : List Text) (is : app_of command ≡ farm_command)
    (given : IsParsedFrom command arg_matches) (matches : HasMatchesOf (app_of command) words arg_matches) where
  options : AreTwo rule_of workers_rule quantum_rule (args_of command)
  options = two_of rule_of workers_rule quantum_rule (args_of command) (ap (λ (a : App). a.top.rules) is)

  plain : has_plain_fields (out-Command command) ≡ true
  plain = ap (λ (a : App). a.top.is_plain) is

  rows : rows_of (found_of arg_matches) ≡ matches_of farm_command words
  rows = (matches (ap is_simple is ∙ farm_is_simple)).0 ∙ ap (λ (a : App). matches_of a words) is

  globals : (out-Command command).has_globals ≡ false
  globals = not_is (out-Command command).has_globals (plain_parts (out-Command command) plain).1

  names_no_group : NamesNoGroup command
  names_no_group =
      let workers = without_groups options.one workers_rule options.one_is refl in
      let quantum = without_groups options.other quantum_rule options.other_is refl in
      subst (All (λ (a : Arg). a.groups.items ≡ [])) (sym options.list)
      (all_without_groups options.one options.other workers quantum)

  no_groups : groups_of given.built ≡ []
  no_groups =
      (given.from.same_groups names_no_group).1 ∙ empty_is (groups_of command)
      (plain_parts (out-Command command) plain).0

  said_at : (k : ℕ) (arg : Arg) (name default : Text) (most bits : ℕ) (E : Type 0)
      (G : List ℕ → Result ℕ E → Type 0) (parsed : Option ℕ) (fallback : ℕ)
      → k < length (args_of command)
      → rule_of (slice_index_or (args_of command) k arg) ≡ number_option name default (Signed (pos 1) (pos most))
      → IsOwnId name
      → ((j : ℕ) (e : Arg) → j < length (args_of command)
      → bytes_eq (slice_index_or (args_of command) j e).id.now (slice_index_or (args_of command) k arg).id.now ≡ true
      → j ≡ k)
      → most < 2 ^ bits → ((text : List ℕ) → one_text (found_of arg_matches) name ≡ Some text → ReadsOne G text parsed)
      → ((u : List ℕ) (x : Result ℕ E) → G u x → ParsesUnsigned bits 10 u x) → (n : ℕ) → n ≡ unwrap_or parsed fallback
      → (1 ≤ n) × (n ≤ most) × IsSaid words name n
  said_at k arg name default most bits E G parsed fallback lt rule own unique fits value only n is_n =
      let id : (slice_index_or (args_of command) k arg).id.now ≡ name = ap (λ (x : Rule). x.id) rule in
      let option = is_option (slice_index_or (args_of command) k arg) name default (Signed (pos 1) (pos most)) rule in
      let got = option_reads command arg_matches given k arg lt (Signed (pos 1) (pos most)) option unique
      (λ e. own.0 (sym id ∙ e))
      (λ auto. elim auto [ inl h ↦ own.1 (sym id ∙ h) | inr h ↦ own.2 (sym id ∙ h) ]) no_groups globals in
      let text = without_minus got.0 in
      let there : one_text (found_of arg_matches) name ≡ Some text =
      subst (λ (w : List ℕ). one_text (found_of arg_matches) w ≡ Some text) id got.1 in
      let read : ReadsOne G text parsed = value text there in
      let number = signed_reads E G bits 1 most got.0 parsed read only fits got.2 in
      let parsed = only text (Ok number.0) (subst (λ (o : Option ℕ). ReadsOne G text o) number.1 read) in
      let row : one_of name (matches_of farm_command words) ≡ Some text =
      ap (one_of name) (sym rows) ∙ (sym (one_text-rows (found_of arg_matches) name) ∙ there) in
      let is : number.0 ≡ n = sym (is_n ∙ ap (λ (o : Option ℕ). unwrap_or o fallback) number.1) in
      subst (λ (x : ℕ). (1 ≤ x) × (x ≤ most) × IsSaid words name x) is (number.2, number.3, (text, row, parsed.1))

  -- the number that is read of `--workers` is from 1 to 8, and the words say it
  pub workers_said : (E : Type 0) (G : List ℕ → Result ℕ E → Type 0) (parsed : Option ℕ) (fallback : ℕ)
      → ((text : List ℕ) → one_text (found_of arg_matches) (codes "workers") ≡ Some text → ReadsOne G text parsed)
      → ((u : List ℕ) (x : Result ℕ E) → G u x → ParsesUnsigned 8 10 u x)
      → (n : ℕ) → n ≡ unwrap_or parsed fallback → (1 ≤ n) × (n ≤ 8) × IsSaid words (codes "workers") n
  workers_said E G parsed fallback value only n is_n =
      let xs = options in
      let d = xs.one in
      let elem : slice_index_or (args_of command) 0 d ≡ xs.one = ap (λ (l : List Arg). slice_index_or l 0 d) xs.list in
      let lt : 0 < length (args_of command) = subst (λ (l : List Arg). 0 < length l) (sym xs.list) (omega arith) in
      let unique =
      subst (λ (l : List Arg). (j : ℕ) (e : Arg) → j < length l
      → bytes_eq (slice_index_or l j e).id.now (slice_index_or l 0 d).id.now ≡ true
      → j ≡ 0)
      (sym xs.list) (one_place xs.one xs.other 0 d xs.one_is xs.other_is (omega arith)) in
      said_at 0 d (codes "workers") (codes "2") 8 8 E G parsed fallback lt (ap rule_of elem ∙ xs.one_is)
      workers_own unique
      (omega arith) value only n is_n

  -- the number that is read of `--quantum` is from 1 to 4096, and the words say it
  pub quantum_said : (E : Type 0) (G : List ℕ → Result ℕ E → Type 0) (parsed : Option ℕ) (fallback : ℕ)
      → ((text : List ℕ) → one_text (found_of arg_matches) (codes "quantum") ≡ Some text → ReadsOne G text parsed)
      → ((u : List ℕ) (x : Result ℕ E) → G u x → ParsesUnsigned 16 10 u x)
      → (n : ℕ) → n ≡ unwrap_or parsed fallback → (1 ≤ n) × (n ≤ 4096) × IsSaid words (codes "quantum") n
  quantum_said E G parsed fallback value only n is_n =
      let xs = options in
      let d = xs.other in
      let elem : slice_index_or (args_of command) 1 d ≡ xs.other =
      ap (λ (l : List Arg). slice_index_or l 1 d) xs.list in
      let lt : 1 < length (args_of command) = subst (λ (l : List Arg). 1 < length l) (sym xs.list) (omega arith) in
      let unique =
      subst (λ (l : List Arg). (j : ℕ) (e : Arg) → j < length l
      → bytes_eq (slice_index_or l j e).id.now (slice_index_or l 1 d).id.now ≡ true
      → j ≡ 1)
      (sym xs.list) (one_place xs.one xs.other 1 d xs.one_is xs.other_is (omega arith)) in
      said_at 1 d (codes "quantum") (codes "256") 4096 16 E G parsed fallback lt
      (ap rule_of elem ∙ xs.other_is) quantum_own
      unique (omega arith) value only n is_n

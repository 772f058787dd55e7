-- What an option with a default gives after a parse: a text that passed its parser. `CommandLine` needs it of
-- `--workers` and `--quantum`.
use Rattle.std.proofs.Common.{zero, suc, ◌≡◌, ◌∙◌, ◌<◌, ◌≤◌, ap, ℕ, Bool, true, false, List, []}
use Rattle.std.proofs.Common.{◌∷◌, length, Option, Some, None, refl, sym, subst, inl, inr, arith}
use Rattle.std.specs.List.{All, slice_index_or}
use Rattle.std.specs.Prelude.{option_map, slice_get, find}
use Rattle.std.specs.Str.{bytes_eq}
use Rattle.std.specs.Borrow.{Bor}
use Rattle.std.proofs.lemmas.List.Elements.{All-get_or}
use Rattle.std.proofs.lemmas.Slice.Eq.{bytes_eq-Decides}
use Rattle.clap.specs.Facts.{args_of, groups_of, Entry, EntryPasses, HasIn, HasReading}
use Rattle.clap.specs.Facts.{PassesArg, WantsDefault, least_values, parser_of, parser_of_value}
use Rattle.clap.specs.Built.{IsAuto, IsParsedFrom}
use Rattle.clap.specs.Matches.{found_of, matched_of, one_text}
use Rattle.clap.specs.Values.{Accepts, read_as, reading_of}
use Rattle.clap.specs.declared.builder.action.ArgAction.TheVariants.{Count, Set}
use Rattle.clap.specs.declared.builder.arg.Arg.{Arg}
use Rattle.clap.specs.declared.builder.command.Command.{Command}
use Rattle.clap.specs.declared.builder.command.Command.TheViews.{out-Command}
use Rattle.clap.specs.declared.builder.value_parser.Reading.{Reading}
use Rattle.clap.specs.declared.builder.value_parser.ValueParser.{ValueParser}
use Rattle.clap.specs.declared.parser.matches.ArgMatches.{ArgMatches}
use Rattle.clap.specs.declared.parser.matches.Found.{Found}
use Rattle.clap.specs.declared.parser.matches.MatchedArg.{MatchedArg}
use Rattle.clap.proofs.CallerLemmas.{default_present, entry_by_id, same_rules_by_id}

-- an option that takes one text, which these numbers' parser checks, and has a default
pub record IsOption (a : Arg) (numbers : ValueParser) : Type 0 where
  pub set : a.action ≡ Some Set
  pub least : 1 ≤ least_values a
  pub parser : a.value_parser ≡ Some numbers
  pub delimiter : a.val_delim ≡ None
  pub wants : WantsDefault a

-- the id of another than the first entry is in the rest
in_rest : (entry : Entry) (xs : List Entry) (id : List ℕ) → HasIn (entry ∷ xs) id → bytes_eq entry.0.now id
    ≡ false → HasIn xs id
in_rest entry xs id (zero, lt, same) other =
    let bad : true ≡ false = sym (same entry) ∙ other in
    cc
in_rest entry xs id (suc i, lt, same) other = (i, omega arith, same)

-- an id that is in a list of entries is found there
found_in : (xs : List Entry) (id : List ℕ) → HasIn xs id
    → (matched : MatchedArg) × (option_map (λ e. e.1) (find (λ e. bytes_eq e.0.now id) xs) ≡ Some matched)
found_in [] id given =
    let bad = given.1 in
    absurd (omega arith)
found_in (x ∷ xs) id given = go (λ other. found_in xs id (in_rest x xs id given other)) (bytes_eq x.0.now id) refl
  where
    go :
        (bytes_eq x.0.now id ≡ false
        → (a : MatchedArg) × (option_map (λ e. e.1) (find (λ e. bytes_eq e.0.now id) xs) ≡ Some a))
        → (b : Bool) → bytes_eq x.0.now id ≡ b
        → (a : MatchedArg) × (option_map (λ e. e.1) (find (λ e. bytes_eq e.0.now id) (x ∷ xs)) ≡ Some a)
    go deeper true is = (x.1, rw is refl)
    go deeper false is =
        let rest = deeper is in
        (rest.0, rw is rest.1)

-- the first of some values
first_in : (P : Bor (List ℕ) → Type 0) (vs : List (Bor (List ℕ))) → 0 < length vs → All P vs
    → (text : Bor (List ℕ)) × (slice_get vs 0 ≡ Some text) × P text
first_in P [] lt given = absurd (omega arith)
first_in P (v ∷ vs) lt given = (v, refl, All-get_or P (v ∷ vs) 0 v (omega arith) given)

-- the text that a getter reads of an entry
text_at : (found : Found) (id : List ℕ) (matched : MatchedArg) (text : Bor (List ℕ)) (how : Reading)
    → matched_of found id ≡ Some matched → slice_get matched.vals.items 0 ≡ Some text → matched.reading ≡ how
    → one_text found id ≡ Some (read_as how text.now)
text_at other_found id matched text how found first is = rw (found, first, is) refl

-- the entry of an option has a first value, which passed its parser and is read as this says
module _ (old : Command) (arg_matches : ArgMatches) (given : IsParsedFrom old arg_matches) (k : ℕ) (arg : Arg)
    (lt : k < length (args_of old))
    (numbers : ValueParser) (option : IsOption (slice_index_or (args_of old) k arg) numbers)
    (unique : (j : ℕ) (e : Arg) → j < length (args_of old)
    → bytes_eq (slice_index_or (args_of old) j e).id.now (slice_index_or (args_of old) k arg).id.now ≡ true
    → j ≡ k)
    (named : (slice_index_or (args_of old) k arg).id.now ≡ [] → ⊥)
    (own : IsAuto (slice_index_or (args_of old) k arg) → ⊥)
    (no_groups : groups_of given.built ≡ []) where
  is_filled : (entry : Entry) → entry.0.now ≡ (slice_index_or (args_of old) k arg).id.now
      → EntryPasses given.built entry
      → 0 < length entry.1.vals.items
  is_filled entry key_id pass = elim pass.1 [
    | inl h ↦ elim h.1 [
      | inl empty ↦ absurd (named (sym key_id ∙ empty))
      | inr has ↦
          let bad : 0 < 0 = rw no_groups at has in
          absurd (omega arith)
    ]
    | inr (inl v) ↦ v
    | inr (inr (inl h)) ↦
        let any = h.1 in
        let s = same_rules_by_id old arg_matches given k arg lt unique own any.0 any.1 any.2 any.3
        (rw key_id at any.4.0) in
        let is_set : any.1.action ≡ Some Set = s.action Set option.set in
        let bad : Set ≡ Count = rw is_set at any.4.1 in
        cc
    | inr (inr (inr h)) ↦
        let s = same_rules_by_id old arg_matches given k arg lt unique own h.0 h.1 h.2 h.3 (rw key_id at h.4.0) in
        elim h.4.1 [
          | inl none ↦
              let one = s.least option.set option.least in
              absurd (omega arith)
          | inr has ↦
              let bad : false ≡ true = rw (s.val_delim, option.delimiter) at has in
              cc
        ]
  ]

  is_no_group : (entry : Entry)
      → entry.0.now ≡ (slice_index_or (args_of old) k arg).id.now → EntryPasses given.built entry
      → entry.1.is_group ≡ true
      → ⊥
  is_no_group entry key_id pass same = elim (pass.3 same) [
    | inl empty ↦ named (sym key_id ∙ empty)
    | inr has ↦
        let bad : 0 < 0 = rw no_groups at has in
        absurd (omega arith)
  ]

  accepts : (other_text text : List ℕ) → other_text ≡ (slice_index_or (args_of old) k arg).id.now
      → PassesArg given.built other_text text
      → Accepts (slice_index_or (args_of old) k arg).ignore_case numbers text
  accepts other_text text key_id any =
      let s = same_rules_by_id old arg_matches given k arg lt unique own any.0 any.1 any.2 any.3
      (rw key_id at any.4.0) in
      let is : parser_of any.1 ≡ numbers = ap parser_of_value (s.parser numbers option.parser) in
      let passed = subst (λ (q : ValueParser). Accepts any.1.ignore_case q text) is any.4.1 in
      subst (λ (b : Bool). Accepts b numbers text) s.ignore_case passed

  reads_by : (text : List ℕ) (how : Reading) → text ≡ (slice_index_or (args_of old) k arg).id.now
      → HasReading given.built text how
      → how ≡ reading_of numbers
  reads_by text how key_id any =
      let s = same_rules_by_id old arg_matches given k arg lt unique own any.0 any.1 any.2 any.3
      (rw key_id at any.4.0) in
      sym any.4.1 ∙ ap (λ (q : Option ValueParser). reading_of (parser_of_value q)) (s.parser numbers option.parser)

  of_entry : (entry : Entry) → entry.0.now ≡ (slice_index_or (args_of old) k arg).id.now → EntryPasses given.built entry
      → (text : Bor (List ℕ)) × (slice_get entry.1.vals.items 0 ≡ Some text) × (entry.1.reading ≡ reading_of numbers)
      × Accepts (slice_index_or (args_of old) k arg).ignore_case numbers text.now
  of_entry entry key_id pass =
      let no_group = is_no_group entry key_id pass in
      let all : All (λ v. PassesArg given.built entry.0.now v.now) entry.1.vals.items =
      elim pass.0 [ inl g ↦ absurd (no_group g) | inr h ↦ h ] in
      let how : entry.1.reading ≡ reading_of numbers =
      elim pass.4 [ inl g ↦ absurd (no_group g) | inr h ↦ reads_by entry.0.now entry.1.reading key_id h ] in
      let first = first_in (λ v. PassesArg given.built entry.0.now v.now) entry.1.vals.items
      (is_filled entry key_id pass) all in
      (first.0, first.1, how, accepts entry.0.now first.0.now key_id first.2)

  -- after a parse a getter reads a text of the option, as its parser reads it, and the parser accepts the text
  pub option_reads : (out-Command old).has_globals ≡ false
      → (text : List ℕ)
      × (one_text (found_of arg_matches) (slice_index_or (args_of old) k arg).id.now
      ≡ Some (read_as (reading_of numbers) text))
      × Accepts (slice_index_or (args_of old) k arg).ignore_case numbers text
  option_reads globals =
      let id = (slice_index_or (args_of old) k arg).id.now in
      let parsed = given.parsed (given.from.globals ∙ globals) in
      let found = found_in (found_of arg_matches).entries.items id
      (default_present old arg_matches given globals k arg lt option.wants) in
      let entry = entry_by_id (EntryPasses given.built) (found_of arg_matches).entries.items id found.0
      parsed.values found.1 in
      let key_id : entry.0.0.now ≡ id = (bytes_eq-Decides entry.0.0.now id).0 entry.2 in
      let first = of_entry entry.0 key_id entry.3 in (
        first.0.now,
        text_at (found_of arg_matches) id entry.0.1 first.0 (reading_of numbers)
            (found.1 ∙ ap Some (sym entry.1)) first.1 first.2,
        first.3,
      )

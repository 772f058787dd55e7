-- What the words of the command line say of a farm that stays up.
use Rattle.std.specs.Prelude.{◌≡◌, ◌≤◌, ◌++◌, ◌*◌, ◌^◌, ◌⊎◌, ℕ, Bool, true, false, List, [], ◌∷◌, Option, Some, None, codes, pos, string_bytes, unwrap_or}
use Rattle.std.specs.Str.Parse.{IsNumeral, digits_value, without_leading_plus}
use Rattle.clap.specs.Words.{App, Row, Rule, Text, matches_of, new_app, new_rule, first_of, one_of, with_rule}
use Rattle.clap.specs.declared.builder.action.ArgAction.TheVariants.{Set, SetTrue}
use Rattle.clap.specs.declared.builder.value_parser.ValueParser.{ValueParser}
use Rattle.clap.specs.declared.builder.value_parser.ValueParser.TheVariants.{Signed}
use Rattle.live_lines.specs.declared.command_line.LiveSettings.{LiveSettings}
use Rattle.live_lines.specs.declared.command_line.RecordSettings.{RecordSettings}

-- ---- the program's command line

-- an option `--name VALUE`
abbrev pub value_option : Text → Rule
value_option name = record (new_rule name) { long = Some name; action = Some Set; value_names = 1 }

-- one for a size, with the text that it is where it isn't given
abbrev pub size_option : Text → Text → Rule
size_option name default = record (value_option name) { defaults = default ∷ [] }

-- one for a number, in the same way
abbrev pub counted_option : Text → Text → ValueParser → Rule
counted_option name default numbers = record (size_option name default) { parser = Some numbers }

-- an option without a value, which requires another
abbrev pub flag_option : Text → Rule
flag_option name = record (new_rule name) { long = Some name; action = Some SetTrue; is_free = false }

-- the path of the plan, which must be given
abbrev pub plan_argument : Rule
plan_argument = record (new_rule (codes "plan")) { action = Some Set; value_names = 1; required = true }

-- the path of the plan; `--workers N`, 1 to 8, else 2; `--quantum N`, 1 to 4096, else 256; `--record DIR`, `--resume`,
-- `--sync`; `--room SIZE`, else 64M; `--record-room SIZE`, else 256M; `--line-steps SIZE`, else 16G; `--restart-steps
-- SIZE`, else 64G
abbrev pub live_command : App
live_command =
    with_rule
    (with_rule
    (with_rule
    (with_rule
    (with_rule
    (with_rule
    (with_rule
    (with_rule
    (with_rule (with_rule (new_app (codes "live")) plan_argument)
    (counted_option (codes "workers") (codes "2") (Signed (pos 1) (pos 8))))
    (counted_option (codes "quantum") (codes "256") (Signed (pos 1) (pos 4096))))
    (value_option (codes "record")))
    (flag_option (codes "resume")))
    (flag_option (codes "sync")))
    (size_option (codes "room") (codes "64M")))
    (size_option (codes "record-room") (codes "256M")))
    (size_option (codes "line-steps") (codes "16G")))
    (size_option (codes "restart-steps") (codes "64G"))

-- ---- what its words say

-- the text of an option is a number from `least` to `most`, and this is it
abbrev pub IsSaidNumber : List Row → Text → ℕ → ℕ → ℕ → Type 0
IsSaidNumber rows name least most n =
    (text : Text) → one_of name rows ≡ Some text → IsNumeral 10 (without_leading_plus text)
    → least ≤ digits_value 10 (without_leading_plus text) → digits_value 10 (without_leading_plus text) ≤ most
    → n ≡ digits_value 10 (without_leading_plus text)

-- how many times as much a letter after a number says, or no letter
abbrev pub IsUnit : Text → ℕ → Type 0
IsUnit letter bytes =
    ((letter ≡ []) × (bytes ≡ 1)) ⊎ (((letter ≡ codes "K") × (bytes ≡ 2 ^ 10))
    ⊎ (((letter ≡ codes "M") × (bytes ≡ 2 ^ 20)) ⊎ ((letter ≡ codes "G") × (bytes ≡ 2 ^ 30))))

-- a word is this text and then such a letter, or no letter
abbrev pub HasUnit : Text → Text → ℕ → Type 0
HasUnit word digits unit = (letter : Text) × (word ≡ digits ++ letter) × IsUnit letter unit

-- a word says this size
abbrev pub IsSize : Text → ℕ → Type 0
IsSize word bytes =
    (digits : Text) × (unit : ℕ) × HasUnit word digits unit × IsNumeral 10 (without_leading_plus digits)
    × (bytes ≡ digits_value 10 (without_leading_plus digits) * unit)

-- the text of an option says this size
abbrev pub IsSaidSize : List Row → Text → ℕ → Type 0
IsSaidSize rows name bytes = IsSize (unwrap_or (first_of name rows) []) bytes

-- whether an option without a value is given
pub record IsSaidFlag (rows : List Row) (name : Text) (is_given : Bool) : Type 0 where
  pub given : one_of name rows ≡ Some (codes "true") → is_given ≡ true
  pub not_given : one_of name rows ≡ Some (codes "false") → is_given ≡ false
  pub none : one_of name rows ≡ None → is_given ≡ false

-- where the farm is recorded, and how, or that it isn't
abbrev pub AreSaidRecords : List Row → Option RecordSettings → Type 0
AreSaidRecords rows None = first_of (codes "record") rows ≡ None
AreSaidRecords rows (Some r) =
    (first_of (codes "record") rows ≡ Some (string_bytes r.path)) × IsSaidFlag rows (codes "resume") r.resumes
    × IsSaidFlag rows (codes "sync") r.syncs

-- the settings are those of these matches
pub record AreSettingsIn (rows : List Row) (s : LiveSettings) : Type 0 where
  pub path : string_bytes s.path ≡ unwrap_or (first_of (codes "plan") rows) []
  pub workers : IsSaidNumber rows (codes "workers") 1 8 s.workers
  pub quantum : IsSaidNumber rows (codes "quantum") 1 4096 s.quantum
  pub records : AreSaidRecords rows s.records
  pub room : IsSaidSize rows (codes "room") s.room
  pub record_room : IsSaidSize rows (codes "record-room") s.record_room
  pub line_steps : IsSaidSize rows (codes "line-steps") s.line_steps
  pub restart_steps : IsSaidSize rows (codes "restart-steps") s.restart_steps

-- the settings are those that the words say, as `clap` reads them
abbrev pub AreSettingsSaid : List Text → LiveSettings → Type 0
AreSettingsSaid words s = AreSettingsIn (matches_of live_command words) s

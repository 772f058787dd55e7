-- Which settings a farm takes, and what the words of the command line say of them.
use Rattle.std.specs.Prelude.{◌≡◌, ◌≤◌, ℕ, List, [], ◌∷◌, Some, codes, pos}
use Rattle.std.specs.Str.Parse.{digits_value, without_leading_plus}
use Rattle.clap.specs.Words.{App, Rule, Text, matches_of, new_app, new_rule, one_of, with_rule}
use Rattle.clap.specs.declared.builder.action.ArgAction.TheVariants.{Set}
use Rattle.clap.specs.declared.builder.value_parser.ValueParser.{ValueParser}
use Rattle.clap.specs.declared.builder.value_parser.ValueParser.TheVariants.{Signed}
use Rattle.farm_cli.specs.declared.configuration.Settings.{Settings}

-- 1 to 8 workers, and 1 to 4096 steps at a time
pub record InRange (s : Settings) : Type 0 where
  pub some_workers : 1 ≤ s.workers
  pub few_workers : s.workers ≤ 8
  pub some_steps : 1 ≤ s.quantum
  pub few_steps : s.quantum ≤ 4096

-- an option `--name N` for numbers, with the text that stands for N where it isn't given
abbrev pub number_option : Text → Text → ValueParser → Rule
number_option name default numbers =
    record (new_rule name)
    { long = Some name; action = Some Set; value_names = 1; defaults = default ∷ []; parser = Some numbers }

-- the program's command line: `--workers N`, 1 to 8, else 2, and `--quantum N`, 1 to 4096, else 256
abbrev pub farm_command : App
farm_command =
    with_rule
    (with_rule (new_app (codes "farm")) (number_option (codes "workers") (codes "2") (Signed (pos 1) (pos 8))))
    (number_option (codes "quantum") (codes "256") (Signed (pos 1) (pos 4096)))

-- the words say this number for an option, or its default is this, as `clap` reads them
abbrev pub IsSaid : List Text → Text → ℕ → Type 0
IsSaid words name n =
    (text : Text) × (one_of name (matches_of farm_command words) ≡ Some text)
    × (n ≡ digits_value 10 (without_leading_plus text))

-- the settings are those that the words say
pub record AreSaid (words : List Text) (s : Settings) : Type 0 where
  pub workers : IsSaid words (codes "workers") s.workers
  pub quantum : IsSaid words (codes "quantum") s.quantum

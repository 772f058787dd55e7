-- How a run ends whose words give no settings.
use Rattle.std.specs.Prelude.{◌≡◌, ◌⊎◌, ℕ, List, [], Option, codes}
use Rattle.std.specs.Io.KnownBytes.{Appends, Keeps}
use Rattle.std.specs.declared.io.ErrorKind.{ErrorKind as ReadKind}
use Rattle.std.specs.declared.io.ErrorKind.TheVariants as read
use Rattle.clap.specs.Words.{IsAmong, Text, fault_of}
use Rattle.clap.specs.declared.error.kind.ErrorKind.{ErrorKind}
use Rattle.clap.specs.declared.error.kind.ErrorKind.TheVariants.{DisplayHelp}
use Rattle.script_text.specs.Writing.{AppendsBeginning}
use Rattle.farm_cli.specs.declared.failure.FarmFailure.TheVariants.{Memory, Io}
use Rattle.farm_cli.specs.declared.failure.Ending.{Ending}
use Rattle.farm_cli.specs.Settings.{farm_command}
use Rattle.farm_cli.specs.Failures.{EndsBy, Tells}

-- the words give settings: `clap` finds neither a fault nor a request for help in them
abbrev pub GiveSettings : List Text → Type 0
GiveSettings words = fault_of farm_command words ≡ []

-- words are refused: by the status, and by a text on standard error, or by a beginning of it if a write failed
pub record RefusesWords (text : List ℕ) (ending : Ending) (errors_before errors_after : Option (List ℕ))
    : Type 0 where
  pub status_of : ending.status ≡ 2
  pub text_of : Tells text ending errors_before errors_after

-- help is shown: standard output gains a text, and standard error nothing
pub record ShowsHelp (text : List ℕ) (ending : Ending)
    (out_before out_after errors_before errors_after : Option (List ℕ)) : Type 0 where
  pub status_of : ending.status ≡ 0
  pub text_of : Appends out_before out_after text
  pub silent : Keeps errors_before errors_after

-- help isn't shown, since a write failed: standard output gains a beginning of the text
pub record ShowsNoHelp (text : List ℕ) (ending : Ending)
    (out_before out_after errors_before errors_after : Option (List ℕ)) : Type 0 where
  pub ended : EndsBy Io ending errors_before errors_after
  pub begun : AppendsBeginning out_before out_after text

-- what `clap` finds in words is of this kind, and has this text: help is shown, if standard output takes it, and
-- anything else is refused
abbrev pub EndsByKind : ErrorKind → List ℕ → Ending → Option (List ℕ) → Option (List ℕ)
    → Option (List ℕ) → Option (List ℕ) → Type 0
EndsByKind DisplayHelp text ending out_before out_after errors_before errors_after =
    ShowsHelp text ending out_before out_after errors_before errors_after
    ⊎ ShowsNoHelp text ending out_before out_after errors_before errors_after
EndsByKind kind text ending out_before out_after errors_before errors_after =
    Keeps out_before out_after × RefusesWords text ending errors_before errors_after

-- there is no memory, and standard output gains nothing
abbrev pub EndsByMemory : Ending → Option (List ℕ) → Option (List ℕ) → Option (List ℕ) → Option (List ℕ)
    → Type 0
EndsByMemory ending out_before out_after errors_before errors_after =
    Keeps out_before out_after × EndsBy Memory ending errors_before errors_after

-- words end a run: by what `clap` finds in them, or since memory ran out
abbrev pub EndsByWords : List Text → Ending → Option (List ℕ) → Option (List ℕ) → Option (List ℕ)
    → Option (List ℕ) → Type 0
EndsByWords words ending out_before out_after errors_before errors_after =
    EndsByMemory ending out_before out_after errors_before errors_after
    ⊎ ((kind : ErrorKind) × (text : List ℕ) × IsAmong kind (fault_of farm_command words)
    × EndsByKind kind text ending out_before out_after errors_before errors_after)

-- a run ends whose words couldn't be read
abbrev pub EndsUnread : ReadKind → Ending → Option (List ℕ) → Option (List ℕ) → Type 0
EndsUnread read.OutOfMemory ending errors_before errors_after = EndsBy Memory ending errors_before errors_after
EndsUnread kind ending errors_before errors_after =
    RefusesWords (codes "error: an argument isn't UTF-8\n") ending errors_before errors_after

-- How a run of the program ends, by its status.
use Rattle.std.specs.Prelude.{ℕ, Bool, List, Option}
use Rattle.farm_cli.specs.declared.failure.FarmFailure.{FarmFailure}
use Rattle.farm_cli.specs.Endings.{EndsByWords}
use Rattle.farm_cli.specs.Failures.{EndsBy}

-- a run ends by a failure, with this status: standard error gains its text, or a beginning of it if a write failed
abbrev pub EndsByStatus : FarmFailure → ℕ → Option (List ℕ) → Option (List ℕ) → Type 0
EndsByStatus failure status before after =
    (stderr_written : Bool) × EndsBy failure (record { status = status; stderr_written = stderr_written }) before after

-- words end a run, with this status, whether standard error took all that is written there or a beginning of it
abbrev pub WordsGiveStatus : List (List ℕ) → ℕ → Option (List ℕ) → Option (List ℕ) → Option (List ℕ)
    → Option (List ℕ)
    → Type 0
WordsGiveStatus words status out_before out_after errors_before errors_after =
    (stderr_written : Bool)
    × EndsByWords words (record { status = status; stderr_written = stderr_written }) out_before out_after
    errors_before errors_after

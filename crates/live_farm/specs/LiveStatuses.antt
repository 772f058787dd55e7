-- The statuses of the program.
use Rattle.std.specs.Prelude.{ℕ}
use Rattle.record_files.specs.declared.failure.FileFailure.{FileFailure}
use Rattle.record_files.specs.declared.failure.FileFailure.TheVariants as file
use Rattle.live_farm.specs.declared.failure.LiveFailure.{LiveFailure}
use Rattle.live_farm.specs.declared.failure.LiveFailure.TheVariants.{Words, Arguments, Plan, Memory, Io, File, Histories, Threads}

-- the status of a run that ends early since it can't use a file
abbrev pub file_status : FileFailure → ℕ
file_status file.Memory = 5
file_status (file.System path error) = 6
file_status (file.Record path why) = 6
file_status file.Histories = 6

-- the status of a run that ends early
abbrev pub live_status : LiveFailure → ℕ
live_status (Words error) = 2
live_status Arguments = 2
live_status (Plan number) = 3
live_status Memory = 5
live_status Io = 6
live_status (File failure) = file_status failure
live_status Histories = 6
live_status Threads = 7

-- Why a call of a store wasn't done.
use Rattle.std.specs.declared.io.Error.{Error}
use Rattle.std.specs.declared.io.ErrorKind.{ErrorKind}
use Rattle.std.specs.declared.io.ErrorKind.TheVariants.{OutOfMemory}
use Rattle.std.specs.IoError.{error_kind}
use Rattle.record_keeping.specs.declared.store.NotKept.{NotKept}
use Rattle.record_keeping.specs.declared.store.NotKept.TheVariants.{Failed, Memory}

-- what an error of this kind comes to
abbrev pub reason_by : ErrorKind → Error → NotKept
reason_by OutOfMemory error = Memory
reason_by _ error = Failed error

-- what an error of a store comes to
abbrev pub reason_of : Error → NotKept
reason_of error = reason_by (error_kind error) error

-- The answer to a query that a package does not support.
use Rattle.std.specs.Prelude.{None}
use Rattle.sspi_types.specs.declared.error.Error.{Error}
use Rattle.sspi_types.specs.declared.error_kind.ErrorKind.TheVariants.{UnsupportedFunction}
use Rattle.sspi_types.specs.declared.reason.Reason.TheVariants.{Unsupported}

-- the answer to a query that a package does not have
abbrev pub unsupported : Error
unsupported = record { error_type = UnsupportedFunction; description = Unsupported; nstatus = None }

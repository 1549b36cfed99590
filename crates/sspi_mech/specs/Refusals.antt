-- A refusal as an error, and an error as a refusal.
use Rattle.std.specs.Prelude.{None}
use Rattle.sspi_types.specs.declared.error.Error.{Error}
use Rattle.sspi_mech.specs.declared.refusal.Refusal.{Refusal}

-- the error that a caller gets for a refusal: it has no NTSTATUS code
abbrev pub error_of : Refusal → Error
error_of refusal = record {
  error_type = refusal.error_type;
  description = refusal.description;
  nstatus = None;
}

-- what an error says, without its code
abbrev pub refusal_of : Error → Refusal
refusal_of error = record { error_type = error.error_type; description = error.description }

-- The refusal that an error code in a request means (MS-CSSP 2.2.1, errorCode).
use Rattle.std.specs.Prelude.{◌≡◌, ◌≢◌, None, Some, Option, Result, Ok, Err}
use Rattle.sspi_types.specs.declared.error.Error.{Error}
use Rattle.sspi_types.specs.declared.error_kind.ErrorKind.TheVariants.{InvalidToken}
use Rattle.sspi_types.specs.declared.nstatus.NStatusCode.{NStatusCode}
use Rattle.sspi_types.specs.declared.reason.Reason.TheVariants.{ErrorStatus}

-- an invalid token with the status that was received
abbrev pub status_error : NStatusCode → Error
status_error code = record {
  error_type = InvalidToken;
  description = ErrorStatus;
  nstatus = Some code;
}

-- a code other than SUCCESS, and only such a code, is a refusal
abbrev pub ChecksCode : {X : Type 0} → Option NStatusCode → Result X Error → Type 0
ChecksCode None (Ok x) = Unit {0}
ChecksCode None (Err error) = ⊥
ChecksCode (Some code) (Ok x) = code.0 ≡ 0
ChecksCode (Some code) (Err error) = (code.0 ≢ 0) × (error ≡ status_error code)

-- What a refusal says: its kind, which has a cause, and no NTSTATUS code.
use Rattle.std.specs.Prelude.{◌≡◌, None, Result, IfErr}
use Rattle.sspi_types.specs.declared.error.Error.{Error}
use Rattle.sspi_types.specs.declared.error_kind.ErrorKind.{ErrorKind}
use Rattle.sspi_credssp.specs.declared.server_state.ServerError.{ServerError}
use Rattle.sspi_credssp.specs.Noted.{OrMemory}

-- of a call that is refused with an error; it may run out of memory at any time
pub record IsRefusedBy {T : Type 0} (result : Result T Error) (causes : ErrorKind →
    Type 0) : Type 0 where
  pub kind : IfErr result (λ error. OrMemory error.error_type (causes error.error_type))
  pub codeless : IfErr result (λ error. error.nstatus ≡ None)

-- of a server's turn, whose refusal returns the request; the causes say where it may run out of
-- memory
pub record IsTurnRefusedBy {T : Type 0} (result : Result T ServerError) (causes : ErrorKind →
    Type 0) : Type 0 where
  pub kind : IfErr result (λ refusal. causes refusal.error.error_type)
  pub codeless : IfErr result (λ refusal. refusal.error.nstatus ≡ None)

-- What a refused call reports.
use Rattle.std.specs.Prelude.{◌≡◌, ◌≢◌, ◌⊎◌, Option, Ok, Err}
use Rattle.sspi_types.specs.declared.error.Error.{Error}
use Rattle.sspi_types.specs.declared.error_kind.ErrorKind.TheVariants as kinds
use Rattle.sspi_tsreq.specs.declared.request.TsRequest.{TsRequest}
use Rattle.sspi_desk.specs.declared.answer.DeskError.{DeskError}
use Rattle.sspi_desk.specs.declared.answer.DeskError.TheVariants.{NoSession, Unread, Refused}
use Rattle.sspi_desk.specs.declared.answer.DeskError.TheVariants.{TooLong, InsufficientMemory}
use Rattle.sspi_desk.specs.Call.{SpellsAny}

-- What becomes of a server's refusal: it is reported with the message for its client, or memory ran
-- out.
abbrev pub Tells : Option TsRequest → Error → DeskError → Type 0
Tells request error NoSession = ⊥
Tells request error (Unread kind) = ⊥
Tells request error (Refused told text) =
    (told ≡ error) × (error.error_type ≢ kinds.InsufficientMemory) ×
    SpellsAny {E = DeskError} request (Ok text)
Tells request error TooLong = ⊥
Tells request error InsufficientMemory =
    (error.error_type ≡ kinds.InsufficientMemory) ⊎
    SpellsAny {E = DeskError} request (Err InsufficientMemory)

-- What a call answers that refuses with a kind and a reason.
use Rattle.std.specs.Prelude.{◌≡◌, ◌≢◌, Option, None, Some, Result, Ok, Err}
use Rattle.sspi_types.specs.declared.error.Error.{Error}
use Rattle.sspi_types.specs.declared.error_kind.ErrorKind.{ErrorKind}
use Rattle.sspi_types.specs.declared.error_kind.ErrorKind.TheVariants.{InsufficientMemory}
use Rattle.sspi_mech.specs.declared.refusal.Refusal.{Refusal}
use Rattle.sspi_mech.specs.Refusals.{error_of}

-- the answer to a caller
abbrev pub answered : {X : Type 0} → Result X Refusal → Result X Error
answered (Ok x) = Ok x
answered (Err refusal) = Err (error_of refusal)

-- the kind of a refusal: the given one, or out of memory if none is given
abbrev pub kind_or_memory : Option ErrorKind → ErrorKind
kind_or_memory None = InsufficientMemory
kind_or_memory (Some kind) = kind

abbrev pub IsCause : Option ErrorKind → ErrorKind → Type 0
IsCause cause kind = kind ≡ kind_or_memory cause

-- a call is refused with this kind: a kind with which the context refuses it, or out of memory if
-- the context permits it
pub record IsRefusedAs (Permitted : Type 0) (Refused : ErrorKind → Type 0) (kind : ErrorKind) : Type
    0 where
  pub cause : kind ≢ InsufficientMemory → Refused kind
  pub memory : kind ≡ InsufficientMemory → Permitted

-- the answer is exactly the expected one, value or kind, of a call that allocates nothing
abbrev pub GivesExactly : {X : Type 0} → Result X Refusal → Result X ErrorKind → Type 0
GivesExactly (Ok x) expected = expected ≡ Ok x
GivesExactly (Err refusal) expected = expected ≡ Err refusal.error_type

-- the answer is the expected one, value or kind; out of memory may take its place
abbrev pub Gives : {X : Type 0} → Result X Refusal → Result X ErrorKind → Type 0
Gives (Ok x) expected = expected ≡ Ok x
Gives (Err refusal) expected = refusal.error_type ≢ InsufficientMemory →
    expected ≡ Err refusal.error_type

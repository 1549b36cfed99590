-- What a call does to the object behind a handle.
use Rattle.std.specs.Global.{Vec}
use Rattle.std.specs.Prelude.{◌≡◌, ◌≢◌, ℕ, ◌==◌, List, Option, None, Some, Result, Ok, Err}
use Rattle.std.specs.Prelude.{if◌then◌else◌}
use Rattle.sspi_types.specs.declared.error.Error.{Error}
use Rattle.sspi_types.specs.declared.error_kind.ErrorKind.{ErrorKind}
use Rattle.sspi_types.specs.Errors.{error_kind_number}
use Rattle.newaksu_c.specs.declared.object.Object.{Object}
use Rattle.newaksu_c.specs.Status.{ok, invalid_handle, insufficient_memory, internal_error}

-- a refusal as a status: the code of its kind; Unknown has the code of OK, and is reported as an
-- internal error
abbrev pub kind_status : ErrorKind → ℕ
kind_status kind = if error_kind_number kind == ok then internal_error else error_kind_number kind

-- what was made, as the object to be kept, or the status of the refusal
abbrev pub made : {X : Type 0} → (X → Object) → Result X Error → Result Object ℕ
made make (Ok x) = Ok (make x)
made make (Err error) = Err (kind_status error.error_type)

-- the same for bytes
abbrev pub spelled : Result (Vec ℕ) Error → Result (List ℕ) ℕ
spelled (Ok bytes) = Ok bytes.items
spelled (Err error) = Err (kind_status error.error_type)

-- what was made is behind the handle, or there was no memory for it and the old object stays; after
-- a refusal, it stays too
abbrev pub Puts : Option Object → Option Object → Result Object ℕ → ℕ → Type 0
Puts before after (Ok object) status =
    (status ≡ ok → after ≡ Some object) × (status ≢ ok → (status ≡ insufficient_memory) ×
    (after ≡ before))
Puts before after (Err refusal) status = (status ≡ refusal) × (after ≡ before)

-- the object of the kind that the call wants is changed; if there is none, the handle is refused
abbrev pub Sets : {X : Type 0} → Option X → (X → Object) → (X → X) → Option Object → Option Object →
    ℕ → Type 0
Sets None make change before after status = (status ≡ invalid_handle) × (after ≡ before)
Sets (Some x) make change before after status = (status ≡ ok) × (after ≡ Some (make (change x)))

abbrev pub made_by : {X : Type 0} → (X → Object) → Result X ℕ → Result Object ℕ
made_by make (Ok x) = Ok (make x)
made_by make (Err status) = Err status

-- the same for a change that allocates, or may be refused
abbrev pub SetsOr : {X : Type 0} → Option X → (X → Object) → (X → Result X ℕ) → Option Object →
    Option Object → ℕ → Type 0
SetsOr None make change before after status = (status ≡ invalid_handle) × (after ≡ before)
SetsOr (Some x) make change before after status = Puts before after (made_by make (change x)) status

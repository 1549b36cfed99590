-- A text that is encoded.
use Rattle.std.specs.Prelude.{◌≡◌, ℕ, List, Option, None, Some, Result, Ok, Err}
use Rattle.sspi_types.specs.declared.error.Error.{Error}
use Rattle.sspi_types.specs.declared.error_kind.ErrorKind.TheVariants.{InternalError}
use Rattle.sspi_types.specs.declared.error_kind.ErrorKind.TheVariants.{InsufficientMemory}

-- exactly this text, unless memory runs out, or `InternalError` if there is none
abbrev pub IsSpelled : Option (List ℕ) → Result (List ℕ) Error → Type 0
IsSpelled (Some text) (Ok bytes) = bytes ≡ text
IsSpelled (Some text) (Err error) = error.error_type ≡ InsufficientMemory
IsSpelled None (Ok bytes) = ⊥
IsSpelled None (Err error) = error.error_type ≡ InternalError

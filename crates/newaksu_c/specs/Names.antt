-- The names of codes, or why there is none.
use Rattle.std.specs.Prelude.{ℕ, List, Option, None, Some, Result, Ok, Err}
use Rattle.sspi_types.specs.Errors.{error_kind_name}
use Rattle.sspi_types.specs.declared.error_kind.ErrorKind.{ErrorKind}
use Rattle.newaksu_c.specs.Status.{absent, invalid_parameter}

abbrev pub kind_name : Option ErrorKind → Result (List ℕ) ℕ
kind_name None = Err invalid_parameter
kind_name (Some kind) = Ok (error_kind_name kind)

abbrev pub code_name : Option (List ℕ) → Result (List ℕ) ℕ
code_name None = Err absent
code_name (Some name) = Ok name

-- How a name is split, and put together again.
use Rattle.std.specs.Prelude.{◌≡◌, List, ℕ, Option, Some, None, Result, Ok, Err}
use Rattle.sspi_types.specs.declared.error.Error.{Error}
use Rattle.sspi_types.specs.Errors.{memory_error}
use Rattle.sspi_names.specs.Name.{Name, parse_name}
use Rattle.sspi_names.specs.Name.{bad_name}
use Rattle.sspi_names.specs.declared.shape.Shape.{Shape}
use Rattle.sspi_names.specs.Username.{name_at, IsHeld}

abbrev pub IsNameOfParts : Result Name Error → Option Name → Type 0
IsNameOfParts (Ok name) found = found ≡ Some name
IsNameOfParts (Err e) None = e ≡ bad_name
IsNameOfParts (Err e) (Some name) = e ≡ memory_error

-- the text `inner` shows the name in `value`
pub record IsSplit (value inner : List ℕ) (shape : Shape) : Type 0 where
  pub named : parse_name value ≡ Some (name_at inner shape)
  pub held : IsHeld inner shape

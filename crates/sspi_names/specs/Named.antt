-- The result of a call that makes a name from texts, or refuses them.
use Rattle.std.specs.Prelude.{◌≡◌, Option, Some, None, Result, Ok, Err}
use Rattle.sspi_names.specs.Name.{Name}
use Rattle.sspi_names.specs.declared.error.UsernameError.{UsernameError}
use Rattle.sspi_names.specs.declared.error.UsernameError.TheVariants.{MixedFormat}
use Rattle.sspi_names.specs.declared.error.UsernameError.TheVariants.{InsufficientMemory}

-- exactly the name that there is; MixedFormat exactly when there is none; allocates only
-- if there is one
abbrev pub IsNamed : Result Name UsernameError → Option Name → Type 0
IsNamed (Ok n) named = named ≡ Some n
IsNamed (Err MixedFormat) named = named ≡ None
IsNamed (Err InsufficientMemory) named = (n : Name) × (named ≡ Some n)

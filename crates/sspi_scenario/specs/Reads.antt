-- What the parsers of the parts of a text promise.
use Rattle.std.specs.Prelude.{◌≡◌, ℕ, Bool, true, false, List, [], ◌∷◌, ◌++◌, Option, Some, None}
use Rattle.std.specs.Prelude.{Result, Ok, Err, if◌then◌else◌}
use Rattle.std.specs.Borrow.{Bor}
use Rattle.std.specs.Str.{bytes_eq}
use Rattle.sspi_scenario.specs.declared.key.Key.{Key}
use Rattle.std.specs.Option.{option_map}
use Rattle.sspi_scenario.specs.Lines.{lines_of}
use Rattle.sspi_scenario.specs.declared.error.LineError.{LineError}
use Rattle.sspi_scenario.specs.declared.error.LineError.TheVariants.{Fault, InsufficientMemory}
use Rattle.sspi_scenario.specs.declared.values.Values.{Values}
use Rattle.hex.specs.declared.error.FromHexError.{FromHexError}
use Rattle.hex.specs.declared.error.FromHexError.TheVariants.{OutOfMemory}

-- exactly the value found; `Fault` exactly if there is none; out of memory is unconstrained
abbrev pub Reads : {T : Type 0} → Result T LineError → Option T → Type 0
Reads (Ok value) found = found ≡ Some value
Reads (Err Fault) found = found ≡ None
Reads (Err InsufficientMemory) found = Unit {0}

-- the same for how a value changes the earlier values
abbrev pub Puts : Values → Values → Result (Unit {0}) LineError → Option (Values → Values) → Type 0
Puts old new (Ok done) change = option_map (λ c. c old) change ≡ Some new
Puts old new (Err Fault) change = change ≡ None
Puts old new (Err InsufficientMemory) change = Unit {0}

-- one more element, exactly the one found; `Fault` exactly if there is none
abbrev pub Adds : {T : Type 0} → List T → List T → Result (Unit {0}) LineError → Option T → Type 0
Adds old new (Ok done) found = option_map (λ x. old ++ x ∷ []) found ≡ Some new
Adds old new (Err Fault) found = found ≡ None
Adds old new (Err InsufficientMemory) found = Unit {0}

-- the first key in these rows that has this name
abbrev pub first_named : List ℕ → List (Key × Bor (List ℕ)) → Option Key
first_named name [] = None
first_named name (row ∷ rows) = if bytes_eq name row.1.now then Some row.0
    else first_named name rows

-- the lines of the rest of a text, if there is a rest
abbrev pub lines_after : Option (List ℕ) → List (List ℕ)
lines_after None = []
lines_after (Some rest) = lines_of rest

-- the error of a line whose hex is refused
abbrev pub hex_refusal : FromHexError → LineError
hex_refusal OutOfMemory = InsufficientMemory
hex_refusal other = Fault

-- The edit that a value describes.
use Rattle.std.specs.Prelude.{ℕ, List, Option, Some, None, codes, if◌then◌else◌}
use Rattle.std.specs.Str.{bytes_eq}
use Rattle.sspi_delegate.specs.declared.edit.Edit.{Edit}
use Rattle.sspi_delegate.specs.declared.edit.EditKind.{EditKind}
use Rattle.sspi_delegate.specs.declared.edit.EditKind.TheVariants as edit
use Rattle.sspi_scenario.specs.Optional.{◌>>=◌}
use Rattle.sspi_scenario.specs.Lines.{parted}
use Rattle.sspi_scenario.specs.Numbers.{number_of}
use Rattle.sspi_scenario.specs.Hex.{hex_of, hex_byte_of}

-- `drop`, `fail`
unfoldable pub kind_alone : List ℕ → Option EditKind
kind_alone word =
    if bytes_eq word (codes "drop") then Some edit.Drop
    else if bytes_eq word (codes "fail") then Some edit.Fail
    else None

-- a number, a space, and a byte in hex
unfoldable pub set_of : List ℕ → Option EditKind
set_of argument = do
  parts ← parted argument
  place ← number_of parts.0
  octet ← hex_byte_of parts.1
  Some (edit.Set place octet)

unfoldable pub cut_of : List ℕ → Option EditKind
cut_of argument = do
  count ← number_of argument
  Some (edit.Cut count)

unfoldable pub again_of : List ℕ → Option EditKind
again_of argument = do
  place ← number_of argument
  Some (edit.Again place)

unfoldable pub add_of : List ℕ → Option EditKind
add_of argument = do
  more ← hex_of argument
  Some (edit.Add more)

unfoldable pub give_of : List ℕ → Option EditKind
give_of argument = do
  bytes ← hex_of argument
  Some (edit.Give bytes)

-- the others have an argument after a space
unfoldable pub kind_by_number : List ℕ → List ℕ → Option EditKind
kind_by_number word argument =
    if bytes_eq word (codes "cut") then cut_of argument
    else if bytes_eq word (codes "set") then set_of argument
    else if bytes_eq word (codes "again") then again_of argument
    else None

unfoldable pub kind_with : List ℕ → List ℕ → Option EditKind
kind_with word argument =
    if bytes_eq word (codes "add") then add_of argument
    else if bytes_eq word (codes "give") then give_of argument
    else kind_by_number word argument

abbrev pub kind_in : List ℕ → Option (List ℕ × List ℕ) → Option EditKind
kind_in action None = kind_alone action
kind_in action (Some parts) = kind_with parts.0 parts.1

unfoldable pub kind_of : List ℕ → Option EditKind
kind_of action = kind_in action (parted action)

-- the number of an entry, a space, and what is done to that entry
unfoldable pub edit_of : List ℕ → Option Edit
edit_of value = do
  parts ← parted value
  place ← number_of parts.0
  what ← kind_of parts.1
  Some (record { entry = place; kind = what })

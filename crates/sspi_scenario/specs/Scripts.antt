-- How a KDC answers one of its calls, as a value says.
use Rattle.std.specs.Prelude.{ℕ, List, Option, Some, None, nat_le, codes, if◌then◌else◌}
use Rattle.std.specs.Str.{bytes_eq}
use Rattle.sspi_mech.specs.declared.plain_kdc.Scripted.{Scripted}
use Rattle.sspi_mech.specs.declared.plain_kdc.Scripted.TheVariants as script
use Rattle.sspi_scenario.specs.Optional.{◌>>=◌}
use Rattle.sspi_scenario.specs.Lines.{parted}
use Rattle.sspi_scenario.specs.Numbers.{number_of}

-- an error code is a byte
unfoldable pub code_at : ℕ → Option Scripted
code_at n = if nat_le n 255 then Some (script.Code n) else None

unfoldable pub numbered_code : List ℕ → Option Scripted
numbered_code digits = do
  n ← number_of digits
  code_at n

-- the number after the word `code`
unfoldable pub code_in : List ℕ → List ℕ → Option Scripted
code_in word digits = if bytes_eq word (codes "code") then numbered_code digits else None

unfoldable pub code_of : List ℕ → Option Scripted
code_of text = do
  parts ← parted text
  code_in parts.0 parts.1

-- `usual`, `fail`, or `code`, a space and a number up to 255
unfoldable pub scripted_of : List ℕ → Option Scripted
scripted_of text =
    if bytes_eq text (codes "usual") then Some script.Usual
    else if bytes_eq text (codes "fail") then Some script.Fail
    else code_of text

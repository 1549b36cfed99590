-- An entry of the KDC table.
use Rattle.std.specs.Prelude.{ℕ, List, Option, Some}
use Rattle.sspi_names.specs.declared.kdc_table.KdcEntry.{KdcEntry}
use Rattle.sspi_scenario.specs.Optional.{◌>>=◌}
use Rattle.sspi_scenario.specs.Lines.{parted}

-- a realm, a space, and the URL of its KDC
unfoldable pub kdc_of : List ℕ → Option KdcEntry
kdc_of value = do
  parts ← parted value
  Some (record { realm = parts.0; url = parts.1 })

-- An account of the proxy's table.
use Rattle.std.specs.Prelude.{ℕ, List, Option, Some}
use Rattle.sspi_names.specs.Name.{parse_name}
use Rattle.sspi_names.specs.declared.identity.AuthIdentity.{AuthIdentity}
use Rattle.sspi_scenario.specs.Optional.{◌>>=◌}
use Rattle.sspi_scenario.specs.Lines.{parted}

-- a name, a space, and the password
unfoldable pub account_of : List ℕ → Option AuthIdentity
account_of value = do
  parts ← parted value
  name ← parse_name parts.0
  Some (record { username = name; password = record { value = parts.1 } })

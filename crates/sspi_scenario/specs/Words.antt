-- The values that are one of a few words.
use Rattle.std.specs.Prelude.{ℕ, List, Option, Some, None, codes, if◌then◌else◌}
use Rattle.std.specs.Str.{bytes_eq}
use Rattle.sspi_credssp.specs.declared.turn.End.{End}
use Rattle.sspi_credssp.specs.declared.turn.End.TheVariants as ends
use Rattle.sspi_tsreq.specs.declared.mode.CredSspMode.{CredSspMode}
use Rattle.sspi_tsreq.specs.declared.mode.CredSspMode.TheVariants.{WithCredentials, CredentialLess}
use Rattle.sspi_scenario.specs.declared.scenario.Mode.{Mode}
use Rattle.sspi_scenario.specs.declared.scenario.Mode.TheVariants as mode
use Rattle.sspi_scenario.specs.declared.scenario.Package.{Package}
use Rattle.sspi_scenario.specs.declared.scenario.Package.TheVariants as packages
use Rattle.sspi_scenario.specs.declared.words.Accounts.{Accounts}
use Rattle.sspi_scenario.specs.declared.words.Accounts.TheVariants as accounts

unfoldable pub mode_of : List ℕ → Option Mode
mode_of word =
    if bytes_eq word (codes "ntlm") then Some mode.Ntlm
    else if bytes_eq word (codes "negotiate") then Some mode.Negotiate
    else None

unfoldable pub package_of : List ℕ → Option Package
package_of word =
    if bytes_eq word (codes "ntlm") then Some packages.Ntlm
    else if bytes_eq word (codes "kerberos") then Some packages.Kerberos
    else None

unfoldable pub delegation_of : List ℕ → Option CredSspMode
delegation_of word =
    if bytes_eq word (codes "with") then Some WithCredentials
    else if bytes_eq word (codes "less") then Some CredentialLess
    else None

unfoldable pub accounts_of : List ℕ → Option Accounts
accounts_of word =
    if bytes_eq word (codes "own") then Some accounts.Own
    else if bytes_eq word (codes "none") then Some accounts.None
    else None

unfoldable pub end_of : List ℕ → Option End
end_of word =
    if bytes_eq word (codes "client") then Some ends.Client
    else if bytes_eq word (codes "server") then Some ends.Server
    else None

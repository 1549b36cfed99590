-- What a server learns of the client's last message.
use Rattle.std.specs.Prelude.{ℕ, List, Option, None, Some, Result, Ok, Err, if◌then◌else◌}
use Rattle.std.specs.Str.{is_utf8}
use Rattle.sspi_types.specs.declared.error_kind.ErrorKind.{ErrorKind}
use Rattle.sspi_types.specs.declared.error_kind.ErrorKind.TheVariants.{InvalidToken}
use Rattle.sspi_types.specs.declared.error_kind.ErrorKind.TheVariants.{UnknownCredentials}
use Rattle.sspi_names.specs.Name.{Name, parse_name}
use Rattle.sspi_mech.specs.declared.ntlm.stage.Claim.{Claim}
use Rattle.sspi_mech.specs.Named.{Named}
use Rattle.sspi_mech.specs.NtlmMessages.{read_authenticate}

abbrev pub claim_under : Named → Option Name → Result Claim ErrorKind
claim_under read None = Err UnknownCredentials
claim_under read (Some name) = Ok (record { name = name; text = read.name; proof = read.body })

-- the name is UTF-8, and does not mix the forms of a name
abbrev pub claim_in : Option Named → Result Claim ErrorKind
claim_in None = Err InvalidToken
claim_in (Some read) = if is_utf8 read.name then claim_under read (parse_name read.name)
    else Err InvalidToken

abbrev pub claim_of : List ℕ → Result Claim ErrorKind
claim_of message = claim_in (read_authenticate message)

-- The line of an outcome.
use Rattle.std.specs.Prelude.{ℕ, List, [], ◌++◌, Option, None, Some, Result, Ok, Err, codes}
use Rattle.std.specs.Fmt.{decimal}
use Rattle.sspi_delegate.specs.declared.answer.DelegateError.{DelegateError}
use Rattle.sspi_delegate.specs.declared.answer.DelegateError.TheVariants as errors
use Rattle.sspi_delegate.specs.declared.answer.Delegation.{Delegation}
use Rattle.sspi_ber.specs.declared.wire_kind.WireKind.{WireKind}
use Rattle.sspi_credssp.specs.declared.turn.End.{End}
use Rattle.sspi_names.specs.declared.identity.AuthIdentity.{AuthIdentity}
use Rattle.sspi_names.specs.Name.{inner_of}
use Rattle.sspi_types.specs.declared.error.Error.{Error}
use Rattle.sspi_types.specs.declared.nstatus.NStatusCode.{NStatusCode}
use Rattle.sspi_types.specs.Errors.{error_kind_name}
use Rattle.sspi_types.specs.StatusCodes.{hex_text}
use Rattle.sspi_report.specs.Entries.{line}
use Rattle.sspi_report.specs.Names.{end_name, fault_name}

-- the client's turns, and the credentials that were delegated
abbrev pub delegated_text : ℕ → AuthIdentity → List ℕ
delegated_text turns credentials =
    codes "ok " ++ decimal turns
    ++ codes " user=" ++ inner_of credentials.username
    ++ codes " password=" ++ credentials.password.value

-- the status that the peer gave, if there is one: `0x` and hex digits without leading zeros
abbrev pub status_part : Option NStatusCode → List ℕ
status_part None = []
status_part (Some status) = codes " " ++ hex_text status.0

-- a refusal by its kind and status
abbrev pub refusal_text : Error → List ℕ
refusal_text error = error_kind_name error.error_type ++ status_part error.nstatus

-- what an end could not read, and a message of an end that is too long
abbrev pub read_text : End → WireKind → List ℕ
read_text end kind = codes "read " ++ end_name end ++ codes " " ++ fault_name kind

abbrev pub write_text : End → List ℕ
write_text end = codes "write " ++ end_name end

-- the line of an error; none if memory ran out
abbrev pub error_line : DelegateError → Option (List ℕ)
error_line (errors.Client error) = Some (line (codes "client " ++ refusal_text error))
error_line (errors.Server error) = Some (line (codes "server " ++ refusal_text error))
error_line (errors.Read end kind) = Some (line (read_text end kind))
error_line (errors.Write end) = Some (line (write_text end))
error_line errors.LinkFault = Some (line (codes "link"))
error_line errors.TurnsSpent = Some (line (codes "turns"))
error_line errors.InsufficientMemory = None

abbrev pub outcome_line : Result Delegation DelegateError → Option (List ℕ)
outcome_line (Ok delegation) = Some (line (delegated_text delegation.rounds delegation.credentials))
outcome_line (Err error) = error_line error

-- What the calls report about an end and the outcome of its last call.
use Rattle.std.specs.Prelude.{◌≡◌, ℕ, ◌==◌, List, Bool, true, false, Option, None, Some, Result, Ok}
use Rattle.std.specs.Prelude.{Err, if◌then◌else◌}
use Rattle.sspi_types.specs.Reasons.{reason_text}
use Rattle.sspi_types.specs.SecurityStatuses.{security_status_number}
use Rattle.sspi_types.specs.declared.error.Error.{Error}
use Rattle.sspi_types.specs.declared.nstatus.NStatusCode.{NStatusCode}
use Rattle.sspi_types.specs.declared.security_status.SecurityStatus.{SecurityStatus}
use Rattle.sspi_names.specs.Name.{domain_of, inner_of}
use Rattle.sspi_names.specs.declared.identity.AuthIdentity.{AuthIdentity}
use Rattle.sspi_credssp.specs.declared.acts.Acts.{Acts}
use Rattle.sspi_credssp.specs.declared.state.CredSspState.{CredSspState}
use Rattle.sspi_credssp.specs.declared.state.CredSspState.TheVariants.{NegoToken, PubKeyInfo}
use Rattle.sspi_credssp.specs.declared.state.CredSspState.TheVariants.{AuthInfo}
use Rattle.sspi_credssp.specs.declared.state.CredSspState.TheVariants as states
use Rattle.sspi_outside.specs.declared.last.Last.{Last}
use Rattle.sspi_outside.specs.declared.last.Last.TheVariants.{Nothing, Reply, Final, Finished, Asks}
use Rattle.sspi_outside.specs.declared.last.Last.TheVariants.{Refused}
use Rattle.newaksu_c.specs.Putting.{kind_status}
use Rattle.newaksu_c.specs.Requests.{present}
use Rattle.newaksu_c.specs.Status.{ok, absent, invalid_handle, invalid_parameter}
use Rattle.newaksu_c.specs.declared.telling.ToldActs.{ToldActs}
use Rattle.newaksu_c.specs.declared.telling.ToldRefusal.{ToldRefusal}

-- a value that is there, or the status that says why there is none
abbrev pub TellsAll : {X : Type 0} → Result X ℕ → X → X → ℕ → Type 0
TellsAll (Ok x) before after status = (after ≡ x) × (status ≡ ok)
TellsAll (Err refusal) before after status = (after ≡ before) × (status ≡ refusal)

abbrev pub state_number : CredSspState → ℕ
state_number NegoToken = 0
state_number PubKeyInfo = 1
state_number AuthInfo = 2
state_number states.Final = 3

abbrev pub state_told : Option CredSspState → Result ℕ ℕ
state_told None = Err invalid_handle
state_told (Some state) = Ok (state_number state)

abbrev pub outcome_number : Last → ℕ
outcome_number Nothing = 0
outcome_number (Reply message) = 1
outcome_number (Final message) = 2
outcome_number (Finished identity) = 3
outcome_number (Refused error message) = 4
outcome_number (Asks question) = 5

abbrev pub outcome_told : Option Last → Result ℕ ℕ
outcome_told None = Err invalid_handle
outcome_told (Some last) = Ok (outcome_number last)

abbrev pub flag : Bool → ℕ
flag true = 1
flag false = 0

-- whether a step answered, and its status
abbrev pub stepped : Option SecurityStatus → ℕ
stepped None = 0
stepped (Some status) = 1

abbrev pub step_status : Option SecurityStatus → ℕ
step_status None = 0
step_status (Some status) = security_status_number status

abbrev pub told_acts : Acts → ToldActs
told_acts acts = record {
  stepped = stepped acts.status;
  status = step_status acts.status;
  negotiated = flag acts.negotiated;
  proved = flag acts.proved;
  checked = flag acts.checked;
  sealed = flag acts.sealed;
  opened = flag acts.opened;
}

abbrev pub acts_told : Option Acts → Result ToldActs ℕ
acts_told None = Err invalid_handle
acts_told (Some acts) = Ok (told_acts acts)

-- ---- a refusal

abbrev pub refusal_by : ℕ → Option NStatusCode → ToldRefusal
refusal_by kind None = record { kind = kind; has_nstatus = 0; nstatus = 0 }
refusal_by kind (Some code) = record { kind = kind; has_nstatus = 1; nstatus = code.0 }

abbrev pub error_of : Option Last → Result Error ℕ
error_of None = Err invalid_handle
error_of (Some Nothing) = Err absent
error_of (Some (Reply message)) = Err absent
error_of (Some (Final message)) = Err absent
error_of (Some (Finished identity)) = Err absent
error_of (Some (Asks question)) = Err absent
error_of (Some (Refused error message)) = Ok error

abbrev pub refusal_of : Result Error ℕ → Result ToldRefusal ℕ
refusal_of (Ok error) = Ok (refusal_by (kind_status error.error_type) error.nstatus)
refusal_of (Err status) = Err status

abbrev pub reason_of : Result Error ℕ → Result (List ℕ) ℕ
reason_of (Ok error) = Ok (reason_text error.description)
reason_of (Err status) = Err status

-- ---- the identity, only once the server has finished

abbrev pub identity_in : Option Last → Result AuthIdentity ℕ
identity_in None = Err invalid_handle
identity_in (Some Nothing) = Err absent
identity_in (Some (Reply message)) = Err absent
identity_in (Some (Final message)) = Err absent
identity_in (Some (Finished identity)) = Ok identity
identity_in (Some (Asks question)) = Err absent
identity_in (Some (Refused error message)) = Err absent

-- its parts by their numbers: the domain, the account, the password, and the whole name
abbrev pub part_of : ℕ → AuthIdentity → Result (List ℕ) ℕ
part_of which identity =
    if which == 0 then present (domain_of identity.username)
    else if which == 1 then Ok identity.username.account
    else if which == 2 then Ok identity.password.value
    else if which == 3 then Ok (inner_of identity.username)
    else Err invalid_parameter

abbrev pub identity_part : ℕ → Result AuthIdentity ℕ → Result (List ℕ) ℕ
identity_part which (Ok identity) = part_of which identity
identity_part which (Err status) = Err status
